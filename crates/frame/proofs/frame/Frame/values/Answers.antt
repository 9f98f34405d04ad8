use Rattle.std.proofs.Common.{arith, ◌++◌, ◌∙◌, drop, replicate, length-set}
use Rattle.std.proofs.lemmas.List.{length-take-le}
use Rattle.model.proofs.Positions.{position_all}
use Rattle.frame.specs.Codes.{values_of}
use Rattle.frame.proofs.Filling.{written, unwritten, written_more}
use Rattle.frame.proofs.Stepping.{values_past}
use Rattle.frame.proofs.frame.Frame.values.Goals as goal

pub loop-v-init : goal.loop-v-init
loop-v-init c = (length-take-le c.args.self.now.n (replicate 32 0) c.args.self.now.few, λ u h. absurd (omega arith))

pub loop-v-preserved : goal.loop-v-preserved
loop-v-preserved c =
    let l = c.loop-v in (
      length-set l.value-items l.v c.value.result ∙ l.invariant.0,
      written_more (values_of c.args.self.now c.args.code) l.value-items l.v c.value.result (omega (arith, c.loop-v-test.true, l.auto.value-items)) c.value.ensures l.invariant.1,
    )

pub returns : goal.returns
returns c =
    let s = c.args.self.now in
    let l = c.loop-v in
    let p = values_of s c.args.code in
    position_all p (l.value-items ++ drop s.n (replicate 32 0)) s.n
    (λ v h. written l.value-items s.n v l.invariant.0 h ∙ l.invariant.1 v (omega (arith, c.loop-v-test.false, l.auto.value-items, l.invariant.0)))
    (λ v h. unwritten l.value-items s.n v l.invariant.0 h)
    (values_past s c.args.code)
