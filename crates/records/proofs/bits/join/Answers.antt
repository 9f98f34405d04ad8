use Rattle.std.proofs.Common.{◌≡◌, true, false, ◌⊎◌, ap, ◌∙◌, arith}
use Rattle.std.proofs.lemmas.Bool.{cases_Bool}
use Rattle.shelves.specs.Shelves.{bit_of}
use Rattle.records.proofs.Putting.{joined_put, joined_kept}
use Rattle.records.proofs.bits.join.Goals as goal
use Rattle.records.proofs.bits.join.Goals.{then-is_new, else-is_new}

pub loop-c-preserved : goal.loop-c-preserved
loop-c-preserved g c =
    let xs = c.args.bytes.now in
    let ys = c.loop-c.bytes in
    let set = g.C.CodeSet.members c.args.set.now in
    let i = c.loop-c.c in
    let (joined, counted, few) = c.loop-c.invariant in
    let in_set = cases_Bool (set i) in
    let in_bytes = cases_Bool (bit_of ys i) in
    elim c.if-is_new.branch [
      | then-is_new w ↦
          let new = w.if-is_new.ensures in
          let member : true ≡ set i = grind arith in
          let absent : false ≡ bit_of ys i = grind arith in
          let (bits, one) = joined_put xs ys set i joined c.if-is_new.bytes member absent (λ d. ap (λ z. bit_of z d) w.bytes-is ∙ w.put.ensures d) in
          (bits, omega arith, omega arith)
      | else-is_new w ↦
          let old = w.if-is_new.ensures in
          let kept : (false ≡ set i) ⊎ (true ≡ bit_of ys i) = grind arith in
          let (bits, none) = joined_kept xs ys set i joined kept in
          ((λ d. ap (λ z. bit_of z d) w.bytes-is ∙ bits d), omega arith, omega arith)
    ]
