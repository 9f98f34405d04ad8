-- Masks: the variables that they have, and their bound.
use Rattle.std.proofs.Common.{◌≡◌, ℕ, suc, ◌+◌, ◌/◌, ◌%◌, ◌^◌, ◌<◌, ◌≤◌, true, false, eqb, ap, arith, pow_pos}
use Rattle.std.proofs.lemmas.Nat.{shr-shr}
use Rattle.std.proofs.lemmas.Nat.Bits.{bit_at-suc, bit_at-lt, bit_at-zero, bit_at_above, same_from_bits}
use Rattle.std.proofs.lemmas.Bool.Decides.{nat_tests}
use Rattle.model.specs.LeaveOut.{has}

-- the variables of a mask but the lowest are those of its half
pub has_half : (mask v : ℕ) → has mask (suc v) ≡ has (mask / 2) v
has_half mask v = ap (λ (x : ℕ). eqb x 1) (bit_at-suc mask v)

-- a mask has no variable past its bits
pub has_beyond : (mask bits v : ℕ) → mask < 2 ^ bits → bits ≤ v → has mask v ≡ false
has_beyond mask bits v h l = ap (λ (x : ℕ). eqb x 1) (bit_at_above mask bits v h l)

pub has_below : (mask bits v : ℕ) → mask < 2 ^ bits → has mask v ≡ true → v < bits
has_below mask bits v h e = grind (arith, has_beyond mask bits v h)

pub has_none : (v : ℕ) → has 0 v ≡ true → ⊥
has_none v e = grind (arith, has_beyond 0 0 v)

-- a mask whose variables are below n is below 2 ^ n
pub mask_below : (f n : ℕ) → ((v : ℕ) → has f v ≡ true → v < n) → f < 2 ^ n
mask_below f n h =
    let none : f / 2 ^ n ≡ 0 = same_from_bits (f / 2 ^ n) 0 (λ i.
    let above = ap (λ (x : ℕ). x % 2) (shr-shr f n i) in
    grind (arith, nat_tests, above, h (n + i), bit_at-lt f (n + i), bit_at-zero i)) in
    grind (arith, pow_pos n)
