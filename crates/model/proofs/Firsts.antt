-- Tests that are made one after the other decide what is tried first.
use Rattle.std.proofs.Common.{◌≡◌, ℕ, ◌+◌, ◌<◌, ◌≤◌, ◌⊎◌, List, [], ◌∷◌, length, Some, Option, refl, inl, arith}
use Rattle.std.proofs.lemmas.Bool.{cases_order}
use Rattle.model.specs.Orders.{Earlier, First, Least}

abbrev pub hd : List ℕ → ℕ
hd [] = 0
hd (x ∷ xs) = x

not_earlier : (xs ys : List ℕ) → hd ys < hd xs → Earlier xs ys → ⊥
not_earlier xs ys l e = grind arith

-- two lists of one length of which neither is earlier are one
pub neither_earlier : (xs ys : List ℕ) → length xs ≡ length ys → (Earlier xs ys → ⊥) → (Earlier ys xs → ⊥) → xs ≡ ys
neither_earlier [] [] e f g = refl
neither_earlier [] (y ∷ ys) e f g = absurd (omega arith)
neither_earlier (x ∷ xs) [] e f g = absurd (omega arith)
neither_earlier (x ∷ xs) (y ∷ ys) e f g = grind (arith, cases_order x y, neither_earlier xs ys)

-- ---- one group of faults after another

module _ {A : Type 0} (turn : A → List ℕ) where
  -- the turns of a group begin with a number from low to high
  abbrev pub Ranged : (A → Type 0) → ℕ → ℕ → Type 0
  Ranged W low high = (e : A) → W e → (low ≤ hd (turn e)) × (hd (turn e) ≤ high)

  pub first_left : (V W : A → Type 0) (a b c d : ℕ) → Ranged V a b → Ranged W c d → b < c → (e : A) → First turn V e → First turn (λ x. V x ⊎ W x) e
  first_left V W a b c d rv rw l e f = (inl f.0, λ x w k. grind (arith, rv e, rw x, f.1 x, not_earlier (turn x) (turn e)))

-- ---- faults that are told apart by a number and a place

-- The faults go by number and then by place, and `fault k i` is the one with the number k at the place i.
module _ {A : Type 0} (number place : A → ℕ) (fault : ℕ → ℕ → A) (back : (a : A) → fault (number a) (place a) ≡ a) (W : A → Type 0) where
  abbrev turn : A → List ℕ
  turn a = number a ∷ place a ∷ []

  abbrev pub NoneBelow : ℕ → Type 0
  NoneBelow k = (a : A) → number a < k → W a → ⊥

  at_number : (k : ℕ) (a : A) → number a ≡ k → W a → W (fault k (place a))
  at_number k a e w = rw (← e, back) w

  pub none_more : (k : ℕ) → NoneBelow k → ((i : ℕ) → W (fault k i) → ⊥) → NoneBelow (k + 1)
  none_more k low none a h w = grind (arith, low a, none (place a), at_number k a)

  pub first_at : (k i : ℕ) → NoneBelow k → Least (λ j. W (fault k j)) (Some i) → number (fault k i) ≡ k → place (fault k i) ≡ i → First turn W (fault k i)
  first_at k i low least n p = (least.0, λ a w e. grind (arith, low a, least.1 (place a), at_number k a))

-- ---- the least number of one of two kinds, where there is none of the first kind

pub least_right : (P Q : ℕ → Type 0) (r : Option ℕ) → ((i : ℕ) → P i → ⊥) → Least Q r → Least (λ i. P i ⊎ Q i) r
least_right P Q r none h = grind arith
