-- Closed sets of codes: what may be filed on a frame's shelf.
use Rattle.std.specs.Prelude.{ℕ, ◌<◌, Bool, T, ◌⊎◌, List}
use Rattle.model.specs.Tasks.{Task, Position, Legal, Applies, after, IsGoal}
use Rattle.model.specs.Frames.{onto, code, frame_size, values}
use Rattle.shelves.specs.Shelves.{Shelf, covered}

-- Each member is covered, or misses the projected goal and each applying operator leads to a member or to a covered position.
abbrev pub Closed : Task → List Shelf → ℕ → (ℕ → Bool) → Type 0
Closed t ss f set =
    (p : Position) → Legal (onto f t) p → T (set (code t f p)) →
    T (covered t ss f p) ⊎ ((IsGoal (onto f t) p → ⊥) × ((o : ℕ) → o < t.m → Applies (onto f t) o p → T (set (code t f (after (onto f t) o p))) ⊎ T (covered t ss f (after (onto f t) o p))))

-- the same, said of codes
abbrev pub ClosedCodes : Task → List Shelf → ℕ → (ℕ → Bool) → Type 0
ClosedCodes t ss f set =
    (c : ℕ) → c < frame_size t f → T (set c) →
    T (covered t ss f (values t f c)) ⊎ ((IsGoal (onto f t) (values t f c) → ⊥) × ((o : ℕ) → o < t.m → Applies (onto f t) o (values t f c) → T (set (code t f (after (onto f t) o (values t f c)))) ⊎ T (covered t ss f (after (onto f t) o (values t f c)))))
