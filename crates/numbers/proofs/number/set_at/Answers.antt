use Rattle.std.proofs.Common.{◌≡◌, ℕ, zero, suc, ◌+◌, ◌-◌, ◌^◌, ◌<◌, ◌≤◌, true, false, List, length, sym, ap, ◌∙◌, subst, subst₂, ⊎_elim, arith}
use Rattle.std.proofs.lemmas.Bool.{cases_lt}
use Rattle.model.specs.LeaveOut.{has}
use Rattle.model.specs.Frames.{choose}
use Rattle.numbers.specs.Numbers.{count, frames, before}
use Rattle.numbers.proofs.Windows.{count_le, among_length, choose_over}
use Rattle.numbers.proofs.Walking.{Goes, count_up_in, count_up_out, pow_up, bit, goes_first, goes_past, goes_with, goes_without, goes_end}
use Rattle.numbers.proofs.number.set_at.Goals as goal
use Rattle.numbers.proofs.number.set_at.Goals.{then-rest-with, else-rest-with}

some_wanted : (left k r : ℕ) → r < before left k → 1 ≤ k
some_wanted left zero r h = absurd (omega arith)
some_wanted left (suc k) r h = omega arith

goes_at : (all : List ℕ) (i cs v : ℕ) {k k' rest rest' low low' : ℕ} → k ≡ k' → rest ≡ rest' → low ≡ low' → Goes all i cs (v + 1) k rest low → Goes all i cs (v + 1) k' rest' low'
goes_at all i cs v {k' = k'} {rest' = rest'} {low = low} e d b g =
    subst (λ x. Goes all i cs (v + 1) k' rest' x) b (subst₂ (λ j r. Goes all i cs (v + 1) j r low) e d g)

few : (a k i : ℕ) → a ≤ 32 → i < length (choose a k) → k ≤ 32
few a k i h l = ⊎_elim (λ le. omega arith) (λ over. absurd (omega (arith, choose_over a k (omega arith)))) (cases_lt k 33)

pub loop-v-init : goal.loop-v-init
loop-v-init c =
    let cs = c.args.candidates in
    let k = c.args.k in
    record {
      left = c.members-left.ensures;
      few = few (count cs 32 0) k c.args.number (count_le cs 32 0) (omega (arith, c.requires, among_length cs 32 0 k));
      below = omega arith;
      goes = goes_first cs k c.args.number c.requires;
    }

pub loop-v-preserved-then-not-contains : goal.loop-v-preserved-then-not-contains
loop-v-preserved-then-not-contains c =
    let v = c.loop-v.v in
    let cs = c.args.candidates in
    let out : has cs v ≡ false = sym c.if-not-contains.ensures in
    record {
      left = c.loop-v.invariant.left ∙ count_up_out v c.loop-v-test.true cs out;
      few = c.loop-v.invariant.few;
      below = omega (arith, c.loop-v.invariant.below, pow_up v c.loop-v-test.true);
      goes = goes_past v c.loop-v-test.true (frames cs c.args.k) c.args.number cs c.loop-v.rest c.loop-v.mask c.loop-v.wanted out c.loop-v.invariant.goes;
    }

pub loop-v-preserved : goal.loop-v-preserved
loop-v-preserved c =
    let v = c.loop-v.v in
    let h = c.loop-v-test.true in
    let cs = c.args.candidates in
    let all = frames cs c.args.k in
    let is : has cs v ≡ true = sym c.if-not-contains.ensures in
    let more = count cs (32 - (v + 1)) (v + 1) in
    let fewer : c.loop-v.left - 1 ≡ more = omega (arith, c.loop-v.invariant.left, count_up_in v h cs is) in
    let with : c.sets_before-with.result ≡ before more c.loop-v.wanted = c.sets_before-with.ensures ∙ ap (λ a. before a c.loop-v.wanted) fewer in
    elim c.if-rest-with.branch [
      | then-rest-with w ↦
          let k = c.loop-v.wanted - 1 in
          let l : c.loop-v.rest < before more c.loop-v.wanted = subst (λ x. c.loop-v.rest < x) with w.if-rest-with.true in
          let e : c.loop-v.wanted ≡ suc k = omega (arith, some_wanted more c.loop-v.wanted c.loop-v.rest l) in
          let next = goes_with v h all c.args.number cs c.loop-v.rest c.loop-v.mask k is (subst (λ j. c.loop-v.rest < before more j) e l) (subst (λ j. Goes all c.args.number cs v j c.loop-v.rest c.loop-v.mask) e c.loop-v.invariant.goes) in
          let mask : c.if-rest-with.mask ≡ c.loop-v.mask + 2 ^ v = w.mask-is ∙ ap (λ x. c.loop-v.mask + x) (bit v h) in
          record {
            left = fewer;
            few = omega (arith, w.wanted-is, c.loop-v.invariant.few);
            below = omega (arith, mask, c.loop-v.invariant.below, pow_up v h);
            goes = goes_at all c.args.number cs v (sym w.wanted-is) (sym w.rest-is) (sym mask) next;
          }
      | else-rest-with w ↦
          let l : before more c.loop-v.wanted ≤ c.loop-v.rest = subst (λ x. x ≤ c.loop-v.rest) with (omega (arith, w.if-rest-with.false)) in
          let next = goes_without v h all c.args.number cs c.loop-v.rest c.loop-v.mask c.loop-v.wanted is l c.loop-v.invariant.goes in
          let rest : c.if-rest-with.rest ≡ c.loop-v.rest - before more c.loop-v.wanted = w.rest-is ∙ ap (λ x. c.loop-v.rest - x) with in
          record {
            left = fewer;
            few = omega (arith, w.wanted-is, c.loop-v.invariant.few);
            below = omega (arith, w.mask-is, c.loop-v.invariant.below, pow_up v h);
            goes = goes_at all c.args.number cs v (sym w.wanted-is) (sym rest) (sym w.mask-is) next;
          }
    ]

pub returns : goal.returns
returns c =
    goes_end c.loop-v.v c.loop-v-test.false (frames c.args.candidates c.args.k) c.args.number c.args.candidates c.loop-v.wanted c.loop-v.rest c.loop-v.mask c.loop-v.invariant.goes
