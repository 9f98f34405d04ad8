-- The order in which things that can be wrong are tried, and which of them decides.
use Rattle.std.specs.Prelude.{◌≡◌, ℕ, ◌<◌, ◌⊎◌, List, [], ◌∷◌, Some, None, Option}

-- lists of one length, compared at the first difference
abbrev pub Earlier : List ℕ → List ℕ → Type 0
Earlier [] ys = ⊥
Earlier (x ∷ xs) [] = ⊥
Earlier (x ∷ xs) (y ∷ ys) = (x < y) ⊎ ((x ≡ y) × Earlier xs ys)

-- of all that is wrong, what is tried first: `turn` says when each thing is tried
abbrev pub First : {A : Type 0} → (A → List ℕ) → (A → Type 0) → A → Type 0
First turn Wrong a = Wrong a × ((b : _) → Wrong b → Earlier (turn b) (turn a) → ⊥)

-- the least number of which P holds, or none where it holds of none
abbrev pub Least : (ℕ → Type 0) → Option ℕ → Type 0
Least P None = (i : ℕ) → P i → ⊥
Least P (Some i) = P i × ((j : ℕ) → j < i → P j → ⊥)
