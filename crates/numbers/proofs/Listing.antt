-- The list of all sets of k candidates has each of them, and is in the order of their ascending lists.
use Rattle.std.proofs.Common.{◌≡◌, ℕ, zero, suc, ◌+◌, ◌-◌, ◌*◌, ◌/◌, ◌^◌, ◌<◌, ◌≤◌, min, Bool, cond, List, [], ◌∷◌, map, sym, refl, ap, ◌∙◌, subst, mul_assoc, pow-suc, mul-add, arith}
use mathlib.Core.List.{map-append}
use native.Mathlib.Nat.{div-div-eq-div-mul}
use Rattle.std.proofs.lemmas.Bool.Decides.{nat_tests}
use lib.Count.{ones, ones_step, ones-le}
use Rattle.model.specs.LeaveOut.{has}
use Rattle.model.specs.Frames.{choose, In, InOrder}
use Rattle.model.proofs.Choosing.{pick, picked, picks, pick_in_order, pick_lowest, chosen}
use Rattle.numbers.specs.Numbers.{count, among, frames, Listed, Lowest}

-- one variable further up
halved : (c v : ℕ) → c / 2 ^ suc v ≡ c / 2 ^ v / 2
halved c v = ap (λ (x : ℕ). c / x) (pow-suc 2 v) ∙ sym (div-div-eq-div-mul c (2 ^ v) 2)

-- ---- the sets from v on are those from 0 on, moved up by v

maps_agree : (a b d e : ℕ → ℕ) → ((x : ℕ) → a (b x) ≡ d (e x)) → (xs : List ℕ) → map a (map b xs) ≡ map d (map e xs)
maps_agree a b d e same [] = refl
maps_agree a b d e same (x ∷ xs) = grind (arith, same x, maps_agree a b d e same xs)

map_cond : (b : Bool) (d : ℕ → ℕ) (xs : List ℕ) → cond b (map d xs) [] ≡ map d (cond b xs [])
map_cond b d xs = grind arith

map_same : (d : ℕ → ℕ) → ((x : ℕ) → d x ≡ x) → (xs : List ℕ) → map d xs ≡ xs
map_same d same [] = refl
map_same d same (x ∷ xs) = grind (arith, same x, map_same d same xs)

among_moved : (c n v k : ℕ) → among c n v k ≡ map (λ f. 2 ^ v * f) (pick (c / 2 ^ v) n k)
unfolding among
among_moved c n v zero = let z : 0 ≡ 2 ^ v * 0 = omega arith in ap (λ x. x ∷ []) z
among_moved c zero v (suc k) = refl
among_moved c (suc n) v (suc k) =
    let b = has c v in
    let q = c / 2 ^ v / 2 in
    let with = map (λ f. 2 * f + 1) (pick q n k) in
    let without = map (λ f. 2 * f) (pick q n (suc k)) in
    let below : (j : ℕ) → among c n (suc v) j ≡ map (λ f. 2 ^ suc v * f) (pick q n j) = λ j. among_moved c n (suc v) j ∙ ap (λ (x : ℕ). map (λ f. 2 ^ suc v * f) (pick x n j)) (halved c v) in
    let odd : map (λ f. 2 ^ v + f) (among c n (suc v) k) ≡ map (λ f. 2 ^ v * f) with =
    ap (map (λ f. 2 ^ v + f)) (below k) ∙ maps_agree (λ f. 2 ^ v + f) (λ f. 2 ^ suc v * f) (λ f. 2 ^ v * f) (λ f. 2 * f + 1) (up_odd v) (pick q n k) in
    let even : among c n (suc v) (suc k) ≡ map (λ f. 2 ^ v * f) without =
    below (suc k) ∙ sym (map_same (λ f. f) (λ x. refl) (map (λ f. 2 ^ suc v * f) (pick q n (suc k))))
    ∙ maps_agree (λ f. f) (λ f. 2 ^ suc v * f) (λ f. 2 ^ v * f) (λ f. 2 * f) (up_even v) (pick q n (suc k)) in
    grind (arith, odd, even, map_cond b (λ f. 2 ^ v * f) with, map-append (λ f. 2 ^ v * f) (cond b with []) without)
  where
    up_even : (v f : ℕ) → 2 ^ suc v * f ≡ 2 ^ v * (2 * f)
    up_even v f = ap (λ (x : ℕ). x * f) (pow-suc 2 v) ∙ mul_assoc (2 ^ v) 2 f

    up_odd : (v f : ℕ) → 2 ^ v + 2 ^ suc v * f ≡ 2 ^ v * (2 * f + 1)
    up_odd v f = let one : 2 ^ v * 1 ≡ 2 ^ v = omega arith in omega (arith, up_even v f, mul-add (2 ^ v) (2 * f) 1)

frames_picked : (c k : ℕ) → frames c k ≡ pick c 32 k
frames_picked c k =
    let z : c / 2 ^ 0 ≡ c = omega arith in
    among_moved c 32 0 k ∙ map_same (λ f. 2 ^ 0 * f) (λ x. omega arith) (pick (c / 2 ^ 0) 32 k) ∙ ap (λ x. pick x 32 k) z

-- ---- as many variables as set bits

count_ones : (f n v : ℕ) → f / 2 ^ v < 2 ^ n → count f n v ≡ ones (f / 2 ^ v)
unfolding count
count_ones f zero v h = omega (arith, ones-le 0 (f / 2 ^ v) h)
count_ones f (suc n) v h =
    let up : f / 2 ^ suc v < 2 ^ n = omega (arith, halved f v) in
    grind (arith, nat_tests, count_ones f n (suc v) up, halved f v, ones_step (f / 2 ^ v))

pub count_all : (f : ℕ) → f < 2 ^ 32 → count f 32 0 ≡ ones f
count_all f h = let z : f / 2 ^ 0 ≡ f = omega arith in count_ones f 32 0 (omega arith) ∙ ap ones z

-- ---- the sets of k candidates

pub listed : (c k : ℕ) → Listed c k
listed c k = record {
  each = λ f. (
    λ i. let p = picked c 32 k f (subst (λ xs. In f xs) (frames_picked c k) i) in (p.0, count_all f p.0 ∙ p.1, p.2),
    λ h. subst (λ xs. In f xs) (sym (frames_picked c k)) (picks c 32 k f (h.0, sym (count_all f h.0) ∙ h.1, h.2)),
  );
  order = subst (InOrder 32) (sym (frames_picked c k)) (pick_in_order c 32 k);
}

pub all_candidates : (n k : ℕ) → n ≤ 32 → frames (2 ^ n - 1) k ≡ choose n k
all_candidates n k h = frames_picked (2 ^ n - 1) k ∙ pick_lowest n 32 k h

pub lowest : (n c : ℕ) → c ≡ 2 ^ min n 32 - 1 → Lowest n c
lowest n c e = record { mask = e; all = λ k. ap (λ x. frames x k) e ∙ all_candidates (min n 32) k (omega arith); chosen = λ k. chosen (min n 32) k }
