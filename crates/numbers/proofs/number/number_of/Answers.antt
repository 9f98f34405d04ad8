use Rattle.std.proofs.Common.{◌≡◌, ℕ, suc, ◌+◌, ◌-◌, ◌%◌, ◌^◌, true, false, List, sym, ap, ◌∙◌, subst, subst₂, arith}
use Rattle.model.specs.LeaveOut.{has}
use Rattle.numbers.specs.Numbers.{count, among, frames, before}
use Rattle.numbers.proofs.Windows.{Window, frames_few}
use Rattle.numbers.proofs.Walking.{count_up_in, count_up_out, mask_with, mask_without, mask_past, window_end}
use Rattle.numbers.proofs.number.number_of.Goals as goal
use Rattle.numbers.proofs.number.number_of.Goals.{then-contains-2, else-contains-2}

window_at : (all : List ℕ) (cs v low : ℕ) {k k' from from' : ℕ} → k ≡ k' → from ≡ from' → Window all (among cs (32 - (v + 1)) (v + 1) k) from low → Window all (among cs (32 - (v + 1)) (v + 1) k') from' low
window_at all cs v low e d w = subst₂ (λ k from. Window all (among cs (32 - (v + 1)) (v + 1) k) from low) e d w

pub loop-v-preserved-then-not-contains : goal.loop-v-preserved-then-not-contains
loop-v-preserved-then-not-contains c =
    let v = c.loop-v.v in
    let cs = c.args.candidates in
    let f = c.args.mask in
    let out : has cs v ≡ false = sym c.if-not-contains.ensures in
    let none : has f v ≡ false = sym c.if-contains.ensures in
    record {
      left = c.loop-v.invariant.left ∙ count_up_out v c.loop-v-test.true cs out;
      wanted = c.loop-v.invariant.wanted ∙ count_up_out v c.loop-v-test.true f none;
      window = mask_past v c.loop-v-test.true (frames cs (count f 32 0)) cs c.loop-v.number f c.loop-v.wanted out none c.loop-v.invariant.window;
    }

pub overflow_add-number : goal.overflow_add-number
overflow_add-number c =
    let v = c.loop-v.v in
    let cs = c.args.candidates in
    let f = c.args.mask in
    let one = count_up_in v c.loop-v-test.true cs (sym c.if-not-contains.ensures) in
    let fewer : c.loop-v.left - 1 ≡ count cs (32 - (v + 1)) (v + 1) = omega (arith, c.loop-v.invariant.left, one) in
    let over : c.sets_before-number.result ≡ before (count cs (32 - (v + 1)) (v + 1)) c.loop-v.wanted = c.sets_before-number.ensures ∙ ap (λ a. before a c.loop-v.wanted) fewer in
    let next = mask_without v c.loop-v-test.true (frames cs (count f 32 0)) cs c.loop-v.number f c.loop-v.wanted (sym c.if-not-contains.ensures) (sym c.if-contains-2.ensures) c.loop-v.invariant.window in
    omega (arith, over, next.fits, frames_few cs (count f 32 0))

pub loop-v-preserved : goal.loop-v-preserved
loop-v-preserved c =
    let v = c.loop-v.v in
    let cs = c.args.candidates in
    let f = c.args.mask in
    let all = frames cs (count f 32 0) in
    let is : has cs v ≡ true = sym c.if-not-contains.ensures in
    let one = count_up_in v c.loop-v-test.true cs is in
    let fewer : c.loop-v.left - 1 ≡ count cs (32 - (v + 1)) (v + 1) = omega (arith, c.loop-v.invariant.left, one) in
    elim c.if-contains-2.branch [
      | then-contains-2 w ↦
          let some : has f v ≡ true = sym w.if-contains-2.ensures in
          let more = count f (32 - (v + 1)) (v + 1) in
          let e : c.loop-v.wanted ≡ suc more = c.loop-v.invariant.wanted ∙ count_up_in v c.loop-v-test.true f some in
          let here = subst (λ k. Window all (among cs (32 - v) v k) c.loop-v.number (f % 2 ^ v)) e c.loop-v.invariant.window in
          let next = mask_with v c.loop-v-test.true all cs c.loop-v.number f more is some here in
          let wanted : c.if-contains-2.wanted ≡ more = omega (arith, w.wanted-is, e) in
          record { left = fewer; wanted = wanted; window = window_at all cs v (f % 2 ^ (v + 1)) (sym wanted) (sym w.number-is) next }
      | else-contains-2 w ↦
          let none : has f v ≡ false = sym w.if-contains-2.ensures in
          let next = mask_without v c.loop-v-test.true all cs c.loop-v.number f c.loop-v.wanted is none c.loop-v.invariant.window in
          let over : w.sets_before-number.result ≡ before (count cs (32 - (v + 1)) (v + 1)) c.loop-v.wanted = w.sets_before-number.ensures ∙ ap (λ a. before a c.loop-v.wanted) fewer in
          let number : c.if-contains-2.number ≡ c.loop-v.number + before (count cs (32 - (v + 1)) (v + 1)) c.loop-v.wanted = w.number-is ∙ ap (λ x. c.loop-v.number + x) over in
          record { left = fewer; wanted = w.wanted-is ∙ c.loop-v.invariant.wanted ∙ count_up_out v c.loop-v-test.true f none; window = window_at all cs v (f % 2 ^ (v + 1)) (sym w.wanted-is) (sym number) next }
    ]

pub returns : goal.returns
returns c = window_end c.loop-v.v c.loop-v-test.false (frames c.args.candidates (count c.args.mask 32 0)) c.args.candidates c.args.mask c.loop-v.number c.loop-v.wanted c.ranges.mask.fits c.loop-v.invariant.wanted c.loop-v.invariant.window
