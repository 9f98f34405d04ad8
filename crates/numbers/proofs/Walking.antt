-- The walk up the variables of a mask, one variable more.
use Rattle.std.proofs.Common.{◌≡◌, ℕ, zero, suc, ◌+◌, ◌-◌, ◌*◌, ◌/◌, ◌%◌, ◌^◌, ◌<◌, ◌≤◌, true, false, List, [], ◌∷◌, length, get_or, sym, refl, ap, ◌∙◌, subst, mod-eq_of_lt, arith, lit<, pow_pos, pow_mono}
use lib.Arith.{mod-mul}
use lib.Pow.{pow-lt}
use Rattle.std.proofs.lemmas.Bool.Decides.{nat_tests}
use Rattle.model.specs.LeaveOut.{has}
use Rattle.counts.proofs.Entries.{choose_more}
use Rattle.numbers.specs.Numbers.{count, among, before}
use Rattle.numbers.proofs.Windows.{count_in, count_out, among_none, among_out, among_length, Window, window_whole, window_with, window_without, window_past}

module _ (v : ℕ) (h : v < 32) where
  to_go : 32 - v ≡ suc (32 - (v + 1))
  to_go = omega arith

  up : suc v ≡ v + 1
  up = omega arith

  pub count_up_in : (f : ℕ) → has f v ≡ true → count f (32 - v) v ≡ suc (count f (32 - (v + 1)) (v + 1))
  count_up_in f e = grind (arith, to_go, up, count_in f (32 - (v + 1)) v e)

  pub count_up_out : (f : ℕ) → has f v ≡ false → count f (32 - v) v ≡ count f (32 - (v + 1)) (v + 1)
  count_up_out f e = grind (arith, to_go, up, count_out f (32 - (v + 1)) v e)

  pub among_up_out : (c k : ℕ) → has c v ≡ false → among c (32 - v) v k ≡ among c (32 - (v + 1)) (v + 1) k
  among_up_out c k e = grind (arith, to_go, up, among_out c (32 - (v + 1)) v k e)

  pub length_up : (c k : ℕ) → has c v ≡ true → length (among c (32 - v) v k) ≡ before (count c (32 - (v + 1)) (v + 1)) k + length (among c (32 - (v + 1)) (v + 1) k)
  length_up c zero e = omega (arith, among_length c (32 - v) v 0, among_length c (32 - (v + 1)) (v + 1) 0)
  length_up c (suc k) e =
      let more = count c (32 - (v + 1)) (v + 1) in
      grind (arith, among_length c (32 - v) v (suc k), count_up_in c e, choose_more more k, among_length c (32 - (v + 1)) (v + 1) (suc k))

  pub pow_up : 2 ^ (v + 1) ≡ 2 * 2 ^ v
  pow_up = ap (λ u. 2 ^ u) (sym up) ∙ omega arith

  -- the bit of v is one of 32
  pub bit : 1 * 2 ^ v % 4294967296 ≡ 2 ^ v
  bit =
      let e : 1 * 2 ^ v ≡ 2 ^ v = omega arith in
      let l : 2 ^ v < 4294967296 = pow-lt h in
      ap (λ (x : ℕ). x % 4294967296) e ∙ mod-eq_of_lt l

  -- the bits below v + 1
  bits : (f : ℕ) → f % 2 ^ (v + 1) ≡ f / 2 ^ v % 2 * 2 ^ v + f % 2 ^ v
  bits f = ap (λ (x : ℕ). f % x) pow_up ∙ mod-mul f (lit< tt) (pow_pos v)

  low_in : (f : ℕ) → has f v ≡ true → f % 2 ^ v + 2 ^ v ≡ f % 2 ^ (v + 1)
  low_in f e = grind (arith, nat_tests, bits f)

  low_out : (f : ℕ) → has f v ≡ false → f % 2 ^ v ≡ f % 2 ^ (v + 1)
  low_out f e = grind (arith, nat_tests, bits f)

  module _ (all : List ℕ) (c from : ℕ) where
    here : (k low : ℕ) → Window all (among c (32 - v) v k) from low → Window all (among c (suc (32 - (v + 1))) v k) from low
    here k low w = subst (λ n. Window all (among c n v k) from low) to_go w

    on : (k x low : ℕ) → Window all (among c (32 - (v + 1)) (suc v) k) x low → Window all (among c (32 - (v + 1)) (v + 1) k) x low
    on k x low w = subst (λ u. Window all (among c (32 - (v + 1)) u k) x low) up w

    pub up_with : (k low : ℕ) → has c v ≡ true → Window all (among c (32 - v) v (suc k)) from low → Window all (among c (32 - (v + 1)) (v + 1) k) from (low + 2 ^ v)
    up_with k low e w = on k from (low + 2 ^ v) (window_with all c (32 - (v + 1)) v from low k e (here (suc k) low w))

    pub up_without : (k low : ℕ) → has c v ≡ true → Window all (among c (32 - v) v k) from low → Window all (among c (32 - (v + 1)) (v + 1) k) (from + before (count c (32 - (v + 1)) (v + 1)) k) low
    up_without k low e w =
        subst (λ u. Window all (among c (32 - (v + 1)) u k) (from + before (count c (32 - (v + 1)) u) k) low) up
        (window_without all c (32 - (v + 1)) v from low k e (here k low w))

    pub up_past : (k low : ℕ) → has c v ≡ false → Window all (among c (32 - v) v k) from low → Window all (among c (32 - (v + 1)) (v + 1) k) from low
    up_past k low e w = on k from low (window_past all c (32 - (v + 1)) v from low k e (here k low w))

    module _ (f : ℕ) where
      pub mask_with : (k : ℕ) → has c v ≡ true → has f v ≡ true → Window all (among c (32 - v) v (suc k)) from (f % 2 ^ v) → Window all (among c (32 - (v + 1)) (v + 1) k) from (f % 2 ^ (v + 1))
      mask_with k e b w = subst (λ x. Window all (among c (32 - (v + 1)) (v + 1) k) from x) (low_in f b) (up_with k (f % 2 ^ v) e w)

      pub mask_without : (k : ℕ) → has c v ≡ true → has f v ≡ false → Window all (among c (32 - v) v k) from (f % 2 ^ v) → Window all (among c (32 - (v + 1)) (v + 1) k) (from + before (count c (32 - (v + 1)) (v + 1)) k) (f % 2 ^ (v + 1))
      mask_without k e b w =
          subst (λ x. Window all (among c (32 - (v + 1)) (v + 1) k) (from + before (count c (32 - (v + 1)) (v + 1)) k) x) (low_out f b) (up_without k (f % 2 ^ v) e w)

      pub mask_past : (k : ℕ) → has c v ≡ false → has f v ≡ false → Window all (among c (32 - v) v k) from (f % 2 ^ v) → Window all (among c (32 - (v + 1)) (v + 1) k) from (f % 2 ^ (v + 1))
      mask_past k e b w = subst (λ x. Window all (among c (32 - (v + 1)) (v + 1) k) from x) (low_out f b) (up_past k (f % 2 ^ v) e w)

-- ---- from a number to its set

-- the set with this number has the variables of `low`, and goes on as the set number `rest` of those from v on
pub record Goes (all : List ℕ) (number c v k rest low : ℕ) : Type 0 where
  pub there : rest < length (among c (32 - v) v k)
  pub goes : get_or all number 0 ≡ low + get_or (among c (32 - v) v k) rest 0

pub goes_first : (c k i : ℕ) → i < length (among c 32 0 k) → Goes (among c 32 0 k) i c 0 k i 0
goes_first c k i h = record { there = h; goes = omega arith }

module _ (v : ℕ) (h : v < 32) (all : List ℕ) (number c rest low : ℕ) where
  pub goes_past : (k : ℕ) → has c v ≡ false → Goes all number c v k rest low → Goes all number c (v + 1) k rest low
  goes_past k e g =
      let same : among c (32 - v) v k ≡ among c (32 - (v + 1)) (v + 1) k = among_up_out v h c k e in
      record { there = subst (λ xs. rest < length xs) same g.there; goes = g.goes ∙ ap (λ xs. low + get_or xs rest 0) same }

  pub goes_with : (k : ℕ) → has c v ≡ true → rest < before (count c (32 - (v + 1)) (v + 1)) (suc k) → Goes all number c v (suc k) rest low → Goes all number c (v + 1) k rest (low + 2 ^ v)
  goes_with k e l g =
      let w = up_with v h (among c (32 - v) v (suc k)) c 0 k 0 e (window_whole (among c (32 - v) v (suc k))) in
      let there : rest < length (among c (32 - (v + 1)) (v + 1) k) = omega (arith, among_length c (32 - (v + 1)) (v + 1) k) in
      let z : 0 + rest ≡ rest = omega arith in
      let at : get_or (among c (32 - v) v (suc k)) rest 0 ≡ 0 + 2 ^ v + get_or (among c (32 - (v + 1)) (v + 1) k) rest 0 = ap (λ i. get_or (among c (32 - v) v (suc k)) i 0) (sym z) ∙ w.at rest there in
      record { there = there; goes = omega (arith, g.goes, at) }

  pub goes_without : (k : ℕ) → has c v ≡ true → before (count c (32 - (v + 1)) (v + 1)) k ≤ rest → Goes all number c v k rest low → Goes all number c (v + 1) k (rest - before (count c (32 - (v + 1)) (v + 1)) k) low
  goes_without k e l g =
      let b = before (count c (32 - (v + 1)) (v + 1)) k in
      let w = up_without v h (among c (32 - v) v k) c 0 k 0 e (window_whole (among c (32 - v) v k)) in
      let there : rest - b < length (among c (32 - (v + 1)) (v + 1) k) = omega (arith, g.there, length_up v h c k e) in
      let z : 0 + b + (rest - b) ≡ rest = omega arith in
      let at : get_or (among c (32 - v) v k) rest 0 ≡ 0 + get_or (among c (32 - (v + 1)) (v + 1) k) (rest - b) 0 = ap (λ i. get_or (among c (32 - v) v k) i 0) (sym z) ∙ w.at (rest - b) there in
      record { there = there; goes = omega (arith, g.goes, at) }

-- ---- past the last variable

module _ (v : ℕ) (h : 32 ≤ v) where
  none_to_go : 32 - v ≡ 0
  none_to_go = omega arith

  pub count_end : (f : ℕ) → count f (32 - v) v ≡ 0
  unfolding count
  count_end f = ap (λ n. count f n v) none_to_go

  pub window_end : (all : List ℕ) (c f from k : ℕ) → f < 2 ^ 32 → k ≡ count f (32 - v) v → Window all (among c (32 - v) v k) from (f % 2 ^ v) → (from < length all) × (get_or all from 0 ≡ f)
  window_end all c f from k small e w =
      let one : among c (32 - v) v k ≡ 0 ∷ [] = ap (among c (32 - v) v) (e ∙ count_end f) ∙ among_none c (32 - v) v in
      let last = subst (λ xs. Window all xs from (f % 2 ^ v)) one w in
      let z : from + 0 ≡ from = omega arith in
      let below : f < 2 ^ v = omega (arith, pow_mono h) in
      let whole : f % 2 ^ v ≡ f = mod-eq_of_lt below in
      (omega (arith, last.fits), ap (λ i. get_or all i 0) (sym z) ∙ last.at 0 (lit< tt) ∙ omega (arith, whole))

  pub goes_end : (all : List ℕ) (number c k rest low : ℕ) → Goes all number c v k rest low → low ≡ get_or all number 0
  unfolding among
  goes_end all number c zero rest low g = omega (arith, g.goes, last rest g.there)
    where
      last : (i : ℕ) → i < 1 → ◌≡◌ {A = ℕ} (get_or (0 ∷ []) i 0) 0
      last zero l = refl
      last (suc i) l = absurd (omega arith)
  goes_end all number c (suc k) rest low g =
      let none : among c (32 - v) v (suc k) ≡ [] = ap (λ n. among c n v (suc k)) none_to_go in
      let l : rest < 0 = subst (λ xs. rest < length xs) none g.there in
      absurd (omega (arith, l))
