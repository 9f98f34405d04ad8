use Rattle.std.proofs.Common.{arith, ap, cond, None, unwrap_or, ◌++◌, ◌∙◌, drop, replicate, length-set}
use Rattle.std.proofs.lemmas.List.{length-take-le}
use Rattle.model.specs.Tasks.{after, position, put}
use Rattle.model.specs.LeaveOut.{has}
use Rattle.model.specs.Frames.{onto}
use Rattle.frame.specs.Held.{size_in}
use Rattle.frame.specs.Codes.{values_of}
use Rattle.frame.proofs.Filling.{written, written_more}
use Rattle.frame.proofs.Stepping.{code_same, put_value}
use Rattle.frame.proofs.frame.Frame.made.Goals as goal

pub loop-v-init : goal.loop-v-init
loop-v-init g c = (length-take-le c.args.self.now.n (replicate 32 0) c.args.self.now.few, λ u h. absurd (omega arith))

pub loop-v-preserved : goal.loop-v-preserved
loop-v-preserved g c =
    let s = c.args.self.now in
    let t = onto s.mask (g.S.TaskSource.task c.args.source.now) in
    let l = c.loop-v in
    let w = t.made c.args.o l.v in (
      length-set l.value-items l.v c.unwrap_or.result ∙ l.invariant.0,
      written_more (after t c.args.o (values_of s c.args.c)) l.value-items l.v c.unwrap_or.result (omega (arith, c.loop-v-test.true, l.auto.value-items))
          (c.unwrap_or.ensures
          ∙ ap (λ k. unwrap_or k c.value.result) (c.kept.ensures ∙ ap (λ k. cond (has s.mask l.v) k None) c.made.ensures)
          ∙ put_value w c.value.result
          ∙ ap (put w) c.value.ensures)
          l.invariant.1,
    )

pub returns : goal.returns
returns g c =
    let s = c.args.self.now in
    let l = c.loop-v in
    let q = after (onto s.mask (g.S.TaskSource.task c.args.source.now)) c.args.o (values_of s c.args.c) in
    c.code.ensures
    ∙ code_same (size_in s.sizes) s.mask (position (l.value-items ++ drop s.n (replicate 32 0))) q s.n
    (λ v h. written l.value-items s.n v l.invariant.0 h ∙ l.invariant.1 v (omega (arith, c.loop-v-test.false, l.auto.value-items, l.invariant.0)))
