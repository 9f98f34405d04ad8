-- Surveys: the greatest closed set of a frame without the covered codes; and the best plan of a projection.
use Rattle.std.specs.Prelude.{◌≡◌, ℕ, ◌<◌, ◌≤◌, Bool, not, T, ◌⊎◌, ◌↔◌, List, [], ◌∷◌, length}
use Rattle.model.specs.Tasks.{Task, Position, Legal, Lawful, Applies, after, IsGoal, Plan}
use Rattle.model.specs.Orders.{Earlier}
use Rattle.model.specs.Frames.{onto, code, frame_size}
use Rattle.shelves.specs.Shelves.{Shelf, covered}
use Rattle.shelves.specs.Closed.{Closed}

-- the operators lead from p to a goal position of the projection, through uncovered positions alone
abbrev pub Reaches : Task → List Shelf → ℕ → List ℕ → Position → Type 0
Reaches t ss f [] p = T (not (covered t ss f p)) × IsGoal (onto f t) p
Reaches t ss f (o ∷ os) p = T (not (covered t ss f p)) × (o < t.m) × Applies (onto f t) o p × Reaches t ss f os (after (onto f t) o p)

-- the set has the uncovered positions from which no goal position is reached
abbrev pub Surveyed : Task → List Shelf → ℕ → (ℕ → Bool) → Type 0
Surveyed t ss f set = (p : Position) → Legal (onto f t) p → T (set (code t f p)) ↔ (T (not (covered t ss f p)) × ((os : List ℕ) → Reaches t ss f os p → ⊥))

-- what a survey files: that set, and no code past the frame's size
abbrev pub Files : Task → List Shelf → ℕ → (ℕ → Bool) → Type 0
Files t ss f set = Surveyed t ss f set × ((c : ℕ) → T (set c) → c < frame_size t f)

-- it is the greatest closed set without the covered positions
pub record Greatest (t : Task) (ss : List Shelf) (f : ℕ) (set : ℕ → Bool) : Type 0 where
  pub closed : Closed t ss f set
  pub uncovered : (p : Position) → Legal (onto f t) p → T (set (code t f p)) → T (covered t ss f p) → ⊥
  pub greatest : (other : ℕ → Bool) → Closed t ss f other → (p : Position) → Legal (onto f t) p → T (other (code t f p)) → T (covered t ss f p) ⊎ T (set (code t f p))

-- the greatest, over the positions that reach a goal position, of the fewest operators needed; 0 if there are none
pub record Rounds (t : Task) (ss : List Shelf) (f r : ℕ) : Type 0 where
  pub enough : (p : Position) → Legal (onto f t) p → (os : List ℕ) → Reaches t ss f os p → (fewer : List ℕ) × Reaches t ss f fewer p × (length fewer ≤ r)
  pub needed : (r ≡ 0) ⊎ ((p : Position) × Legal (onto f t) p × ((os : List ℕ) × Reaches t ss f os p × (length os ≡ r)) × ((os : List ℕ) → Reaches t ss f os p → r ≤ length os))

-- the projection's plan with the fewest operators, and of those the one with the smaller operator at the first difference
pub record Best (t : Task) (f : ℕ) (os : List ℕ) : Type 0 where
  pub reaches : Plan (onto f t) os
  pub fewest : (other : List ℕ) → Plan (onto f t) other → length os ≤ length other
  pub smallest : (other : List ℕ) → Plan (onto f t) other → length other ≡ length os → Earlier other os → ⊥

-- ---- the laws

abbrev pub SurveysGreatest : Type 0
SurveysGreatest = (t : Task) → Lawful t → (ss : List Shelf) (f : ℕ) (set : ℕ → Bool) → Surveyed t ss f set → Greatest t ss f set

-- no two sets are what a survey files, no two numbers are its rounds, which are below the frame's size, and no two plans are a projection's best
pub record SurveysDetermined : Type 0 where
  pub sets : (t : Task) → Lawful t → (ss : List Shelf) (f : ℕ) (a b : ℕ → Bool) → Files t ss f a → Files t ss f b → a ≡ b
  pub rounds : (t : Task) (ss : List Shelf) (f a b : ℕ) → Rounds t ss f a → Rounds t ss f b → a ≡ b
  pub few : (t : Task) → Lawful t → (ss : List Shelf) (f r : ℕ) → Rounds t ss f r → r < frame_size t f
  pub plans : (t : Task) (f : ℕ) (a b : List ℕ) → Best t f a → Best t f b → a ≡ b
