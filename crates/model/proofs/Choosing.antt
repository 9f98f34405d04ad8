-- The sets of k variables out of some candidates, in the order of their ascending lists; all n variables are one case.
use Rattle.std.proofs.Common.{◌≡◌, ℕ, zero, suc, ◌+◌, ◌-◌, ◌*◌, ◌/◌, ◌%◌, ◌^◌, ◌<◌, ◌≤◌, Bool, true, cond, eqb, ◌⊎◌, ◌↔◌, List, [], ◌∷◌, ◌++◌, map, length, refl, subst, inl, arith, pow_pos}
use lib.Count.{ones, ones_step, ones-le}
use lib.ListN.{length-map}
use Rattle.std.specs.List.{AllByRecursion}
use Rattle.std.proofs.lemmas.Bool.Decides.{nat_tests}
use Rattle.std.proofs.lemmas.Nat.{zero_from_ones}
use Rattle.std.proofs.lemmas.Nat.Bits.{bit_at_lowest, bit_at_ones}
use Rattle.model.specs.Orders.{Earlier}
use Rattle.model.specs.LeaveOut.{has}
use Rattle.model.specs.Frames.{choose, members, In, InOrder, Chosen}
use Rattle.model.proofs.Masks.{has_half, has_below, has_none}

-- the sets of k of the candidates c among the lowest n variables
abbrev pub pick : ℕ → ℕ → ℕ → List ℕ
pick c n zero = 0 ∷ []
pick c zero (suc k) = []
pick c (suc n) (suc k) = cond (eqb (c % 2) 1) (map (λ f. 2 * f + 1) (pick (c / 2) n k)) [] ++ map (λ f. 2 * f) (pick (c / 2) n (suc k))

-- ---- what a list has

pub in_append : (x : ℕ) (a b : List ℕ) → In x (a ++ b) ↔ (In x a ⊎ In x b)
in_append x [] b = grind arith
in_append x (y ∷ a) b = grind (arith, in_append x a b)

pub in_odd : (x : ℕ) (a : List ℕ) → In x (map (λ f. 2 * f + 1) a) ↔ ((x % 2 ≡ 1) × In (x / 2) a)
in_odd x [] = grind arith
in_odd x (y ∷ a) = grind (arith, in_odd x a)

pub in_even : (x : ℕ) (a : List ℕ) → In x (map (λ f. 2 * f) a) ↔ ((x % 2 ≡ 0) × In (x / 2) a)
in_even x [] = grind arith
in_even x (y ∷ a) = grind (arith, in_even x a)

-- a set with the lowest variable, where that is a candidate, or one without
in_half : (c n k x : ℕ) → In x (pick c (suc n) (suc k))
    ↔ (((c % 2 ≡ 1) × (x % 2 ≡ 1) × In (x / 2) (pick (c / 2) n k)) ⊎ ((x % 2 ≡ 0) × In (x / 2) (pick (c / 2) n (suc k))))
in_half c n k x = grind (
  arith,
  nat_tests,
  in_append x (cond (eqb (c % 2) 1) (map (λ f. 2 * f + 1) (pick (c / 2) n k)) []) (map (λ f. 2 * f) (pick (c / 2) n (suc k))),
  in_odd x (pick (c / 2) n k),
  in_even x (pick (c / 2) n (suc k)),
)

-- ---- the list has each set of k candidates, and no other

abbrev Candidates : ℕ → ℕ → Type 0
Candidates c f = (v : ℕ) → has f v ≡ true → has c v ≡ true

candidates_half : (c f : ℕ) → Candidates c f ↔ ((f % 2 ≡ 1 → c % 2 ≡ 1) × Candidates (c / 2) (f / 2))
candidates_half c f = (
  λ w. (λ h. grind (arith, nat_tests, w 0, bit_at_lowest c, bit_at_lowest f), λ v h. grind (arith, w (suc v), has_half c v, has_half f v)),
  whole,
)
  where
    whole : (f % 2 ≡ 1 → c % 2 ≡ 1) × Candidates (c / 2) (f / 2) → Candidates c f
    whole w zero h = grind (arith, nat_tests, bit_at_lowest c, bit_at_lowest f)
    whole w (suc v) h = grind (arith, w.1 v, has_half c v, has_half f v)

in_pick : (c n k f : ℕ) → In f (pick c n k) ↔ ((f < 2 ^ n) × (ones f ≡ k) × Candidates c f)
in_pick c n zero f = (λ h. grind (arith, ones-le 0 0, has_none, pow_pos n), λ h. inl (zero_from_ones f h.1))
in_pick c zero (suc k) f = grind (arith, ones-le 0 f)
in_pick c (suc n) (suc k) f =
    grind (arith, in_half c n k f, in_pick (c / 2) n k (f / 2), in_pick (c / 2) n (suc k) (f / 2), ones_step f, candidates_half c f)

pub picked : (c n k f : ℕ) → In f (pick c n k) → (f < 2 ^ n) × (ones f ≡ k) × ((v : ℕ) → has f v ≡ true → has c v ≡ true)
picked c n k f = (in_pick c n k f).0

pub picks : (c n k f : ℕ) → (f < 2 ^ n) × (ones f ≡ k) × ((v : ℕ) → has f v ≡ true → has c v ≡ true) → In f (pick c n k)
picks c n k f = (in_pick c n k f).1

-- ---- the order of ascending lists

-- as many members as set bits
pub members_length : (n f : ℕ) → f < 2 ^ n → length (members n f) ≡ ones f
members_length zero f h = omega (arith, ones-le 0 f h)
members_length (suc n) f h = grind (arith, nat_tests, length-map (members n (f / 2)) suc, members_length n (f / 2), ones_step f)

earlier_suc : (xs ys : List ℕ) → Earlier xs ys → Earlier (map suc xs) (map suc ys)
earlier_suc [] ys h = absurd h
earlier_suc (x ∷ xs) [] h = absurd h
earlier_suc (x ∷ xs) (y ∷ ys) h = grind (arith, earlier_suc xs ys)

odd_earlier : (n f g : ℕ) → Earlier (members n f) (members n g) → Earlier (members (suc n) (2 * f + 1)) (members (suc n) (2 * g + 1))
odd_earlier n f g h = grind (arith, nat_tests, earlier_suc (members n f) (members n g))

even_earlier : (n f g : ℕ) → Earlier (members n f) (members n g) → Earlier (members (suc n) (2 * f)) (members (suc n) (2 * g))
even_earlier n f g h = grind (arith, nat_tests, earlier_suc (members n f) (members n g))

zero_first : (xs ys : List ℕ) → 0 < length ys → Earlier (0 ∷ xs) (map suc ys)
zero_first xs [] h = absurd (omega arith)
zero_first xs (y ∷ ys) h = inl (omega arith)

-- a set with the lowest variable is earlier than one without
odd_first : (n f g : ℕ) → f % 2 ≡ 1 → g % 2 ≡ 0 → g / 2 < 2 ^ n → 0 < ones (g / 2) → Earlier (members (suc n) f) (members (suc n) g)
odd_first n f g odd even small some =
    grind (arith, nat_tests, members_length n (g / 2), zero_first (map suc (members n (f / 2))) (members n (g / 2)))

module _ (m n : ℕ) (d : ℕ → ℕ) (keep : (f g : ℕ) → Earlier (members n f) (members n g) → Earlier (members m (d f)) (members m (d g))) where
  all_map : (f : ℕ) (fs : List ℕ) → AllByRecursion (λ g. Earlier (members n f) (members n g)) fs → AllByRecursion (λ g. Earlier (members m (d f)) (members m g)) (map d fs)
  all_map f [] a = tt
  all_map f (g ∷ fs) a = (keep f g a.0, all_map f fs a.1)

  order_map : (fs : List ℕ) → InOrder n fs → InOrder m (map d fs)
  order_map [] o = tt
  order_map (f ∷ fs) o = (all_map f fs o.0, order_map fs o.1)

all_append : (P : ℕ → Type 0) (xs ys : List ℕ) → AllByRecursion P xs → ((y : ℕ) → In y ys → P y) → AllByRecursion P (xs ++ ys)
all_append P [] [] a h = tt
all_append P [] (y ∷ ys) a h = grind (arith, h, all_append P [] ys)
all_append P (x ∷ xs) ys a h = grind (arith, all_append P xs ys)

order_append : (n : ℕ) (xs ys : List ℕ) → InOrder n xs → InOrder n ys → ((x y : ℕ) → In x xs → In y ys → Earlier (members n x) (members n y)) → InOrder n (xs ++ ys)
order_append n [] ys o p h = p
order_append n (x ∷ xs) ys o p h = grind (arith, all_append (λ g. Earlier (members n x) (members n g)) xs ys, h, order_append n xs ys)

order_cond : (n : ℕ) (b : Bool) (xs : List ℕ) → InOrder n xs → InOrder n (cond b xs [])
order_cond n b xs o = grind arith

pub pick_in_order : (c n k : ℕ) → InOrder n (pick c n k)
pick_in_order c n zero = (tt, tt)
pick_in_order c zero (suc k) = tt
pick_in_order c (suc n) (suc k) =
    let odd = map (λ f. 2 * f + 1) (pick (c / 2) n k) in
    order_append (suc n) (cond (eqb (c % 2) 1) odd []) (map (λ f. 2 * f) (pick (c / 2) n (suc k)))
    (order_cond (suc n) (eqb (c % 2) 1) odd (order_map (suc n) n (λ f. 2 * f + 1) (odd_earlier n) (pick (c / 2) n k) (pick_in_order (c / 2) n k)))
    (order_map (suc n) n (λ f. 2 * f) (even_earlier n) (pick (c / 2) n (suc k)) (pick_in_order (c / 2) n (suc k)))
    (λ x y i j.
    grind (arith, odd_first n x y, in_odd x (pick (c / 2) n k), in_even y (pick (c / 2) n (suc k)), in_pick (c / 2) n (suc k) (y / 2)))

-- ---- the lowest n variables as candidates

pick_none : (m k : ℕ) → pick 0 m (suc k) ≡ []
pick_none zero k = refl
pick_none (suc m) k = grind (arith, pick_none m k)

-- of m variables, the lowest n
pub pick_lowest : (n m k : ℕ) → n ≤ m → pick (2 ^ n - 1) m k ≡ choose n k
pick_lowest n m zero l = refl
pick_lowest zero m (suc k) l = pick_none m k
pick_lowest (suc n) zero (suc k) l = absurd (omega arith)
pick_lowest (suc n) (suc m) (suc k) l =
    let odd : (2 ^ suc n - 1) % 2 ≡ 1 = omega (arith, pow_pos n) in
    let half : (2 ^ suc n - 1) / 2 ≡ 2 ^ n - 1 = omega (arith, pow_pos n) in
    grind (arith, nat_tests, odd, half, pick_lowest n m k, pick_lowest n m (suc k))

pub chosen : (n k : ℕ) → Chosen n k
chosen n k = record {
  each = λ f. grind (arith, nat_tests, pick_lowest n n k, in_pick (2 ^ n - 1) n k f, has_below f n, bit_at_ones n);
  order = subst (InOrder n) (pick_lowest n n k (omega arith)) (pick_in_order (2 ^ n - 1) n k);
}
