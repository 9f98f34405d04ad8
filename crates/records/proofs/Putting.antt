-- Bits of bytes: what setting one changes, and a loop that adds the members of a set.
use Rattle.std.proofs.Common.{◌≡◌, ℕ, ◌+◌, ◌*◌, ◌/◌, ◌%◌, ◌^◌, ◌<◌, Bool, true, false, ◌&&◌, ◌||◌, eqb, ltb, not, ◌⊎◌, List, length, get_or, set, add-one, arith, get_or-set_other, get_or-set_same}
use lib.Bits.{bit_or}
use mir.Syntax.{w8}
use Rattle.std.proofs.lemmas.Nat.Bits.{bit_at_set_same, bit_at_set_other}
use Rattle.std.proofs.lemmas.Bool.Decides.{nat_tests}
use Rattle.shelves.specs.Shelves.{bit_of}
use Rattle.shelves.specs.Filing.{count}

pub put_bit : (xs : List ℕ) (c d : ℕ) → c / 8 < length xs → bit_of (set xs (c / 8) (bit_or (get_or xs (c / 8) 0) (1 * 2 ^ (c % 8) % 2 ^ 8))) d ≡ (eqb d c || bit_of xs d)
put_bit xs c d h =
    let a = get_or xs (c / 8) 0 in
    let v = bit_or a (1 * 2 ^ (c % 8) % 2 ^ 8) in
    let same = bit_at_set_same w8 a (c % 8) in
    let other = bit_at_set_other w8 a (c % 8) (omega arith) (d % 8) in
    grind (arith, nat_tests, same, other, get_or-set_same xs (c / 8) v 0 h, get_or-set_other xs (c / 8) (d / 8) v 0)

-- ---- the bytes ys are xs with the members of a set below c

abbrev pub Joined : List ℕ → (ℕ → Bool) → ℕ → List ℕ → Type 0
Joined xs set c ys = (d : ℕ) → bit_of ys d ≡ (bit_of xs d || (ltb d c && set d))

module _ (xs ys : List ℕ) (set : ℕ → Bool) (c : ℕ) (joined : Joined xs set c ys) where
  abbrev new : ℕ → Bool
  new k = set k && not (bit_of xs k)

  -- at c nothing has changed yet
  at_c : bit_of ys c ≡ bit_of xs c
  at_c = grind (arith, nat_tests, joined c)

  -- the member c is put
  pub joined_put : (zs : List ℕ) → true ≡ set c → false ≡ bit_of ys c → ((d : ℕ) → bit_of zs d ≡ (eqb d c || bit_of ys d)) → Joined xs set (c + 1) zs × (count (c + 1) new ≡ 1 + count c new)
  joined_put zs member absent put = (λ d. grind (arith, nat_tests, joined d, put d), rw add-one (grind (arith, at_c)))

  -- c is no member, or was there already
  pub joined_kept : (false ≡ set c) ⊎ (true ≡ bit_of ys c) → Joined xs set (c + 1) ys × (count (c + 1) new ≡ count c new)
  joined_kept kept = (λ d. grind (arith, nat_tests, joined d), rw add-one (grind (arith, at_c)))
