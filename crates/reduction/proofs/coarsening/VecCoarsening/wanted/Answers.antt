use Rattle.std.proofs.Common.{rules, refl}
use Rattle.model.specs.Stack.{stack_wanted}
use Rattle.reduction.proofs.Passing.{passed_all}
use Rattle.reduction.proofs.coarsening.VecCoarsening.wanted.Goals as goal

pub returns : goal.returns
returns g c =
    let v = c.args.v in
    let l = g.L in
    rw (← c.deref.ensures.value, ← c.iter.ensures.rest)
    (passed_all (λ ls x. stack_wanted ls v x) (λ x. refl) (λ l ls x. refl)
    l.Single.layering l.Coarsening.layers g.met.L.Single.alone _ _ (λ y l z f' k. search rules)
    c.iter.result c.args.x c.fold.result c.fold.ensures.ran)
