-- Shelves that lie one after the other in the pool, and what writing the bytes of one leaves of the others.
use Rattle.std.proofs.Common.{◌≡◌, ℕ, zero, suc, ◌+◌, ◌-◌, ◌<◌, ◌≤◌, Bool, true, ◌||◌, eqb, List, [], ◌∷◌, length, get_or, take, drop, sym, refl, ap, ◌∙◌, subst, arith}
use mathlib.Core.Path.{fun_ext}
use borrow.Rule.Slice.PartMut.{put_mid}
use Rattle.std.proofs.lemmas.Bool.{cond-true}
use Rattle.std.proofs.lemmas.List.{get_or-take, take-take, length-take-le}
use Rattle.std.proofs.lemmas.Slice.{between_is, between-put_mid, take-put_mid_below, drop-put_mid}
use Rattle.shelves.specs.Shelves.{bit_of, bytes_for, place}
use Rattle.shelves.specs.Filing.{joined}
use Rattle.records.specs.declared.shelf.Shelf.{Shelf}
use Rattle.records.specs.Records.{bytes_of, shelf_of, shelves_of}
use Rattle.records.specs.Layout.{laid, Placed}

-- ---- shelves in a row

abbrev pub Chained : ℕ → List Shelf → Type 0
Chained at [] = Unit {0}
Chained at (r ∷ rs) = (r.at ≡ at) × Chained (at + bytes_for r.frame.size) rs

chained_from : (at : ℕ) (rs : List Shelf) → ((i : ℕ) (d : Shelf) → i < length rs → (get_or rs i d).at ≡ at + laid (take i rs)) → Chained at rs
chained_from at [] f = tt
chained_from at (r ∷ rs) f =
    let first : r.at ≡ at + 0 = f 0 r (omega arith) in
    (omega arith, chained_from (at + bytes_for r.frame.size) rs (λ i d h. let e = f (suc i) d (omega arith) in omega arith))

pub chained : (rs : List Shelf) (n : ℕ) → n ≤ length rs → Placed rs n → Chained 0 (take n rs)
chained rs n h p = chained_from 0 (take n rs) (λ i d l.
    let l' : i < n = omega (arith, length-take-le n rs h) in
    let e : i ≤ n = omega arith in
    ap (λ (x : Shelf). x.at) (get_or-take n rs i d l') ∙ p i d l' ∙ ap laid (sym (take-take i n rs e)) ∙ omega arith)

chained_least : (at : ℕ) (rs : List Shelf) → Chained at rs → (i : ℕ) (x : Shelf) → i < length rs → x ≡ get_or rs i x → at ≤ x.at
chained_least at [] c i x h e = absurd (omega arith)
chained_least at (r ∷ rs) c zero x h e = let q : x.at ≡ r.at = ap (λ (y : Shelf). y.at) e in omega (arith, c.0)
chained_least at (r ∷ rs) c (suc i) x h e = let q = chained_least (at + bytes_for r.frame.size) rs c.1 i x (omega arith) e in omega arith

-- ---- after a write of the k bytes at a

module _ (a k : ℕ) (pool ys : List ℕ) (inside : a + k ≤ length pool) (long : length ys ≡ k) where
  abbrev written : List ℕ
  written = put_mid a k pool ys

  pub window_below : (at w : ℕ) → at + w ≤ a → take w (drop at written) ≡ take w (drop at pool)
  window_below at w h =
      let e : at + w - at ≡ w = omega arith in
      ap (λ n. take n (drop at written)) (sym e) ∙ between_is written at (at + w) ∙ ap (drop at) (take-put_mid_below a k pool ys (at + w) h (omega arith))
      ∙ sym (ap (λ n. take n (drop at pool)) (sym e) ∙ between_is pool at (at + w))

  pub window_above : (at w : ℕ) → a + k ≤ at → take w (drop at written) ≡ take w (drop at pool)
  window_above at w h = ap (take w) (drop-put_mid a k pool ys at h (omega arith) long)

  pub window_same : take k (drop a written) ≡ ys
  window_same =
      let e : a + k - a ≡ k = omega arith in
      let l : length ys ≡ a + k - a = omega arith in
      ap (λ n. take n (drop a written)) (sym e) ∙ between-put_mid a k pool ys (a + k) (omega arith) l

  pub shelves_above : (at : ℕ) (rs : List Shelf) → Chained at rs → a + k ≤ at → shelves_of written rs ≡ shelves_of pool rs
  shelves_above at [] c h = refl
  shelves_above at (r ∷ rs) c h = λ i.
      record { frame = r.frame.mask; bits = bit_of (window_above r.at (bytes_for r.frame.size) (omega (arith, c.0)) i) } ∷ shelves_above (at + bytes_for r.frame.size) rs c.1 (omega arith) i

  pub shelves_below : (at : ℕ) (rs : List Shelf) → Chained at rs → at + laid rs ≤ a → shelves_of written rs ≡ shelves_of pool rs
  shelves_below at [] c h = refl
  shelves_below at (r ∷ rs) c h = λ i.
      record { frame = r.frame.mask; bits = bit_of (window_below r.at (bytes_for r.frame.size) (omega (arith, c.0)) i) } ∷ shelves_below (at + bytes_for r.frame.size) rs c.1 (omega arith) i

  -- the bits of the shelf x, whose bytes are written
  bits_written : (x : Shelf) (set : ℕ → Bool) → x.at ≡ a → bytes_for x.frame.size ≡ k → ((c : ℕ) → bit_of ys c ≡ (bit_of (bytes_of pool x) c || set c)) → bit_of (bytes_of written x) ≡ (λ c. bit_of (bytes_of pool x) c || set c)
  bits_written x set e l b =
      ap (λ n. bit_of (take n (drop x.at written))) l ∙ ap (λ n. bit_of (take k (drop n written))) e ∙ ap bit_of window_same ∙ fun_ext b

  -- the set joins the shelf of the frame f, which is x
  pub shelves_joined : (f : ℕ) (set : ℕ → Bool) (at : ℕ) (rs : List Shelf) → Chained at rs → (i : ℕ) (x : Shelf) → place (shelves_of pool rs) f ≡ i → i < length rs → x ≡ get_or rs i x
      → x.at ≡ a → bytes_for x.frame.size ≡ k → ((c : ℕ) → bit_of ys c ≡ (bit_of (bytes_of pool x) c || set c)) → shelves_of written rs ≡ joined (shelves_of pool rs) f set
  shelves_joined f set at [] c i x p h e ea ek b = absurd (omega arith)
  shelves_joined f set at (r ∷ rs) c zero x p h e ea ek b =
      let Bits : Shelf → Type 0 = λ y. bit_of (bytes_of written y) ≡ (λ c. bit_of (bytes_of pool y) c || set c) in
      let bits = subst Bits e (bits_written x set ea ek b) in
      let same : eqb r.frame.mask f ≡ true = grind arith in
      let start = ap (λ (y : Shelf). y.at) e in
      let size = ap (λ (y : Shelf). bytes_for y.frame.size) e in
      let above = shelves_above (at + bytes_for r.frame.size) rs c.1 (omega (arith, start, size, c.0)) in
      (λ j. record { frame = r.frame.mask; bits = bits j } ∷ above j)
      ∙ sym (cond-true (eqb r.frame.mask f) _ (shelf_of pool r ∷ joined (shelves_of pool rs) f set) same)
  shelves_joined f set at (r ∷ rs) c (suc i) x p h e ea ek b =
      let least = chained_least (at + bytes_for r.frame.size) rs c.1 i x (omega arith) e in
      let below = window_below r.at (bytes_for r.frame.size) (omega (arith, c.0)) in
      grind (arith, shelves_joined f set (at + bytes_for r.frame.size) rs c.1 i x)
