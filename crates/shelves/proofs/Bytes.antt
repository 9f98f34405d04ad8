-- Sets of codes as bytes.
use Rattle.std.proofs.Common.{◌≡◌, ℕ, zero, suc, ◌+◌, ◌*◌, ◌/◌, ◌%◌, ◌^◌, ◌<◌, ◌≤◌, Bool, false, cond, ◌&&◌, T, ltb, List, map, length, sym, ap, ◌∙◌, ⊎_elim, arith}
use Rattle.std.specs.List.{range_with_len}
use Rattle.std.proofs.lemmas.List.{get_or_past}
use Rattle.std.proofs.lemmas.List.FromFn.{length-map-range_with_len, get_or-map-range_with_len}
use lib.Bits.{bit_or}
use Rattle.std.specs.Int.{bit_at}
use Rattle.std.proofs.lemmas.Bool.{cases_lt, le-ltb}
use Rattle.std.proofs.lemmas.Bool.Decides.{nat_tests}
use Rattle.std.proofs.lemmas.Nat.Bits.{bit_at-zero, bit_at_or, bit_at-pow_same, bit_at-pow_other}
use Rattle.model.specs.LeaveOut.{has}
use Rattle.model.proofs.Masks.{has_none}
use Rattle.shelves.specs.Shelves.{bit_of, bytes_for}

-- ---- no bit past the bytes

no_bit : (i : ℕ) → has 0 i ≡ false
no_bit i = grind (arith, has_none i)

pub bit_past : (bytes : List ℕ) (c : ℕ) → 8 * length bytes ≤ c → bit_of bytes c ≡ false
bit_past bytes c h = ap (λ (x : ℕ). has x (c % 8)) (get_or_past bytes (c / 8) 0 (omega arith)) ∙ no_bit (c % 8)

pub bit_within : (bytes : List ℕ) (c : ℕ) → T (bit_of bytes c) → c < 8 * length bytes
bit_within bytes c b = grind (arith, bit_past bytes c)

-- ---- one byte for eight codes

-- the byte of the codes from 8 k on, as far as the n lowest bits
abbrev byte_below : (ℕ → Bool) → ℕ → ℕ → ℕ
byte_below set k zero = 0
byte_below set k (suc n) = bit_or (byte_below set k n) (cond (set (8 * k + n)) (2 ^ n) 0)

-- one bit more
next_bit : (byte n j : ℕ) (here there : Bool) → (j ≡ n → here ≡ there) → bit_at byte j ≡ cond (ltb j n && there) 1 0 → bit_at (bit_or byte (cond here (2 ^ n) 0)) j ≡ cond (ltb j (suc n) && there) 1 0
next_bit byte n j here there same h =
    grind (arith, nat_tests, bit_at_or byte (cond here (2 ^ n) 0) j, bit_at-pow_same n, bit_at-pow_other n j, bit_at-zero j)

bit_below : (set : ℕ → Bool) (k n j : ℕ) → bit_at (byte_below set k n) j ≡ cond (ltb j n && set (8 * k + j)) 1 0
bit_below set k zero j = bit_at-zero j ∙ sym (ap (λ b. cond (b && set (8 * k + j)) 1 0) (le-ltb j 0 (omega arith)))
bit_below set k (suc n) j = next_bit (byte_below set k n) n j (set (8 * k + n)) (set (8 * k + j)) (λ e. ap (λ i. set (8 * k + i)) (sym e)) (bit_below set k n j)

abbrev byte_at : (ℕ → Bool) → ℕ → ℕ
byte_at set k = byte_below set k 8

byte_bit : (set : ℕ → Bool) (k i : ℕ) → i < 8 → has (byte_at set k) i ≡ set (8 * k + i)
byte_bit set k i l = grind (arith, nat_tests, bit_below set k 8 i)

-- ---- the bytes of a set

-- some bytes hold the set, if it has no code past the size
pub set_as_bytes : (set : ℕ → Bool) (size : ℕ) → ((c : ℕ) → T (set c) → c < size) → (bytes : List ℕ) × (length bytes ≡ bytes_for size) × ((c : ℕ) → bit_of bytes c ≡ set c)
set_as_bytes set size fits = (bytes, long, λ c. ⊎_elim (λ l. within c l) (λ l. past c l) (cases_lt (c / 8) n))
  where
    n : ℕ
    n = bytes_for size

    bytes : List ℕ
    bytes = map (byte_at set) (range_with_len 0 n)

    long : length bytes ≡ n
    long = length-map-range_with_len (byte_at set) 0 n

    within : (c : ℕ) → c / 8 < n → bit_of bytes c ≡ set c
    within c l =
        let w : 8 * (c / 8) + c % 8 ≡ c = omega arith in
        ap (λ (x : ℕ). has x (c % 8)) (get_or-map-range_with_len (byte_at set) 0 n (c / 8) (c / 8) 0 l (omega arith)) ∙ byte_bit set (c / 8) (c % 8) (omega arith) ∙ ap set w

    past : (c : ℕ) → n ≤ c / 8 → bit_of bytes c ≡ set c
    past c l =
        let big : size ≤ c = omega arith in
        let out : set c ≡ false = grind (arith, fits c) in
        bit_past bytes c (omega (arith, long)) ∙ sym out
