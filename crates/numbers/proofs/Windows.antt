-- Walking up the variables, the sets that go on from here stand in one window of all sets.
use Rattle.std.proofs.Common.{◌≡◌, ℕ, zero, suc, ◌+◌, ◌^◌, ◌<◌, ◌≤◌, true, false, cond, ◌&&◌, ltb, List, [], ◌∷◌, ◌++◌, map, length, get_or, sym, refl, ap, ◌∙◌, subst, ⊎_elim, arith, length-append, pow_pos, pow_mono}
use lib.ListN.{length-map}
use Rattle.std.proofs.lemmas.List.{get_or_append_left, get_or-append-add, get_or-map}
use Rattle.std.proofs.lemmas.Bool.Decides.{nat_tests}
use Rattle.std.proofs.lemmas.Bool.{cases_Bool}
use Rattle.model.specs.LeaveOut.{has}
use Rattle.model.specs.Frames.{choose}
use Rattle.counts.proofs.Entries.{choose_more}
use Rattle.numbers.specs.Numbers.{count, among, frames, before}

module _ (c n v : ℕ) where
  pub count_in : has c v ≡ true → count c (suc n) v ≡ suc (count c n (suc v))
  unfolding count
  count_in e = grind arith

  pub count_out : has c v ≡ false → count c (suc n) v ≡ count c n (suc v)
  unfolding count
  count_out e = grind arith

  pub among_in : (k : ℕ) → has c v ≡ true → among c (suc n) v (suc k) ≡ map (λ f. 2 ^ v + f) (among c n (suc v) k) ++ among c n (suc v) (suc k)
  unfolding among
  among_in k e = grind arith

  pub among_none : among c n v 0 ≡ 0 ∷ []
  unfolding among
  among_none = refl

pub among_out : (c n v k : ℕ) → has c v ≡ false → among c (suc n) v k ≡ among c n (suc v) k
unfolding among
among_out c n v zero e = refl
among_out c n v (suc k) e = grind arith

-- there are as many sets of candidates as of things
pub among_length : (c n v k : ℕ) → length (among c n v k) ≡ length (choose (count c n v) k)
unfolding among count
among_length c n v zero = ap length (among_none c n v)
among_length c zero v (suc k) = refl
among_length c (suc n) v (suc k) =
    let with = among_length c n (suc v) k in
    let without = among_length c n (suc v) (suc k) in
    let more = choose_more (count c n (suc v)) k in
    let both = length-append (map (λ f. 2 ^ v + f) (among c n (suc v) k)) (among c n (suc v) (suc k)) in
    let moved = length-map (among c n (suc v) k) (λ f. 2 ^ v + f) in
    ⊎_elim
    (λ e. grind (arith, among_in c n v k e, count_in c n v e, with, without, more, both, moved))
    (λ e. grind (arith, among_out c n v (suc k) e, count_out c n v e, without))
    (cases_Bool (has c v))

-- of all sets, those from `from` on that have the variables of `low` and go on as in `rest`
pub record Window (all rest : List ℕ) (from low : ℕ) : Type 0 where
  pub fits : from + length rest ≤ length all
  pub at : (i : ℕ) → i < length rest → get_or all (from + i) 0 ≡ low + get_or rest i 0

pub window_whole : (all : List ℕ) → Window all all 0 0
window_whole all = record { fits = omega arith; at = λ i h. let e : 0 + i ≡ i = omega arith in ap (λ j. get_or all j 0) e ∙ omega arith }

pub window_same : (all rest rest' : List ℕ) (from low : ℕ) → rest ≡ rest' → Window all rest from low → Window all rest' from low
window_same all rest rest' from low e w = subst (λ xs. Window all xs from low) e w

module _ (all xs ys : List ℕ) (from low d : ℕ) (w : Window all (map (λ f. d + f) xs ++ ys) from low) where
  lengths : length (map (λ f. d + f) xs ++ ys) ≡ length xs + length ys
  lengths = length-append (map (λ f. d + f) xs) ys ∙ ap (λ x. x + length ys) (length-map xs (λ f. d + f))

  pub window_left : Window all xs from (low + d)
  window_left = record {
    fits = omega (arith, lengths, w.fits);
    at = λ i h. w.at i (omega (arith, lengths))
        ∙ ap (λ x. low + x) (get_or_append_left (map (λ f. d + f) xs) ys 0 i (omega (arith, length-map xs (λ f. d + f))) ∙ get_or-map (λ f. d + f) xs i 0 0 h)
        ∙ omega arith;
  }

  pub window_right : Window all ys (from + length xs) low
  window_right = record {
    fits = omega (arith, lengths, w.fits);
    at = λ i h.
        let e : from + length xs + i ≡ from + (length xs + i) = omega arith in
        let l : length (map (λ f. d + f) xs) + i ≡ length xs + i = omega (arith, length-map xs (λ f. d + f)) in
        ap (λ j. get_or all j 0) e ∙ w.at (length xs + i) (omega (arith, lengths))
        ∙ ap (λ x. low + x) (ap (λ j. get_or (map (λ f. d + f) xs ++ ys) j 0) (sym l) ∙ get_or-append-add (map (λ f. d + f) xs) ys i 0);
  }

-- ---- one variable more

module _ (all : List ℕ) (c n v from low : ℕ) where
  -- a set that has the candidate v
  pub window_with : (k : ℕ) → has c v ≡ true → Window all (among c (suc n) v (suc k)) from low → Window all (among c n (suc v) k) from (low + 2 ^ v)
  window_with k e w = window_left all (among c n (suc v) k) (among c n (suc v) (suc k)) from low (2 ^ v) (subst (λ xs. Window all xs from low) (among_in c n v k e) w)

  -- a set that passes the candidate v over comes after all that have it
  pub window_without : (k : ℕ) → has c v ≡ true → Window all (among c (suc n) v k) from low → Window all (among c n (suc v) k) (from + before (count c n (suc v)) k) low
  window_without zero e w =
      let z : from ≡ from + 0 = omega arith in
      subst (λ x. Window all (among c n (suc v) 0) x low) z (subst (λ xs. Window all xs from low) (among_none c (suc n) v ∙ sym (among_none c n (suc v))) w)
  window_without (suc k) e w =
      subst (λ x. Window all (among c n (suc v) (suc k)) (from + x) low) (among_length c n (suc v) k)
      (window_right all (among c n (suc v) k) (among c n (suc v) (suc k)) from low (2 ^ v) (subst (λ xs. Window all xs from low) (among_in c n v k e) w))

  pub window_past : (k : ℕ) → has c v ≡ false → Window all (among c (suc n) v k) from low → Window all (among c n (suc v) k) from low
  window_past k e w = subst (λ xs. Window all xs from low) (among_out c n v k e) w

-- ---- bounds

pub count_le : (f n v : ℕ) → count f n v ≤ n
unfolding count
count_le f zero v = omega arith
count_le f (suc n) v = grind (arith, count_le f n (suc v))

choose_one : (k : ℕ) → length (choose 0 k) ≤ 1
choose_one zero = omega arith
choose_one (suc k) = omega arith

choose_few : (a k : ℕ) → length (choose (suc a) k) < 2 ^ suc a
choose_few a zero = omega (arith, pow_pos a)
choose_few zero (suc k) = omega (arith, choose_more 0 k, choose_one k)
choose_few (suc a) (suc k) = omega (arith, choose_more (suc a) k, choose_few a k, choose_few a (suc k))

pub choose_small : (a k : ℕ) → a ≤ 32 → length (choose a k) < 4294967296
choose_small zero k h = omega (arith, choose_one k)
choose_small (suc a) k h = omega (arith, choose_few a k, pow_mono h)

pub choose_over : (a k : ℕ) → a < k → length (choose a k) ≡ 0
choose_over zero zero h = absurd (omega arith)
choose_over zero (suc k) h = refl
choose_over (suc a) zero h = absurd (omega arith)
choose_over (suc a) (suc k) h = omega (arith, choose_more a k, choose_over a k (omega arith), choose_over a (suc k) (omega arith))

-- the table's answer, which is 0 past its end
pub counted : (a k : ℕ) → a ≤ 32 → cond (ltb a 33 && ltb k 33) (length (choose a k)) 0 ≡ length (choose a k)
counted a k h = grind (arith, nat_tests, choose_over a k)

-- how many sets of candidates there are, from the table and within 32 bits
pub frames_counted : (c k : ℕ) → length (frames c k) ≡ cond (ltb (count c 32 0) 33 && ltb k 33) (length (choose (count c 32 0) k)) 0
frames_counted c k = among_length c 32 0 k ∙ sym (counted (count c 32 0) k (count_le c 32 0))

pub frames_few : (c k : ℕ) → length (frames c k) < 4294967296
frames_few c k = omega (arith, among_length c 32 0 k, choose_small (count c 32 0) k (count_le c 32 0))
