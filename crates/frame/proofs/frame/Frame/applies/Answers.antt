use Rattle.std.proofs.Common.{rules}
use Rattle.model.specs.Tasks.{Applies}
use Rattle.model.specs.Frames.{values_by}
use Rattle.frame.specs.Held.{size_in}
use Rattle.frame.proofs.Stepping.{all_hold}
use Rattle.frame.proofs.frame.Frame.applies.Goals as goal

pub returns : goal.returns
unfolding Applies
returns g c =
    let s = c.args.self.now in
    let t = g.S.TaskSource.task c.args.source.now in
    all_hold s (t.needed c.args.o) (values_by (size_in s.sizes) s.mask c.args.c) _ c.all.ensures.ran (λ v b q k. search rules)
