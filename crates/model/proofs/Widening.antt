-- Each smaller set of variables lies inside one of exactly k.
use Rattle.std.proofs.Common.{◌≡◌, ℕ, zero, suc, ◌+◌, ◌*◌, ◌/◌, ◌^◌, ◌<◌, ◌≤◌, T, ⊎_elim, arith, pow_pos}
use lib.Bits.{and_step}
use lib.Count.{ones, ones_step, ones-le}
use Rattle.std.proofs.lemmas.Bool.{cases_lt}
use Rattle.std.proofs.lemmas.Bool.Decides.{nat_tests}
use Rattle.std.proofs.lemmas.Nat.{zero_from_ones}
use Rattle.model.specs.Frames.{In, inside, choose}
use Rattle.model.proofs.Choosing.{chosen}

-- the wider set by its bits: the half of the smaller set is widened, and the lowest variable joins where there is room
widened : (n k f : ℕ) → f < 2 ^ n → ones f ≤ k → k ≤ n → (g : ℕ) × (g < 2 ^ n) × (ones g ≡ k) × T (inside f g)
widened n zero f h c l = (0, pow_pos n, omega (arith, ones-le 0 0), grind (arith, nat_tests, zero_from_ones f))
widened zero (suc k) f h c l = absurd (omega arith)
widened (suc n) (suc k) f h c l = ⊎_elim
    (λ full.
    let (g, i, o, s) = widened n (suc k) (f / 2) (omega arith) (omega (arith, ones_step f)) (omega (arith, ones-le n (f / 2))) in
    (2 * g, omega arith, grind (arith, ones_step (2 * g)), grind (arith, nat_tests, and_step f (2 * g), ones_step f)))
    (λ room.
    let (g, i, o, s) = widened n k (f / 2) (omega arith) room (omega arith) in
    (2 * g + 1, omega arith, grind (arith, ones_step (2 * g + 1)), grind (arith, nat_tests, and_step f (2 * g + 1))))
    (cases_lt k (ones (f / 2)))

-- each set of at most k of the n variables lies inside one of exactly k
pub wider : (n k f : ℕ) → f < 2 ^ n → ones f ≤ k → k ≤ n → (g : ℕ) × In g (choose n k) × T (inside f g)
wider n k f h c l = let (g, i, o, s) = widened n k f h c l in (g, ((chosen n k).each g).1 (i, o), s)
