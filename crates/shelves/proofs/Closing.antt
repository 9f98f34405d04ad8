-- Closed sets: by positions and by codes, over shelves that grow, and their unions.
use Rattle.std.proofs.Common.{ℕ, ◌<◌, Bool, ◌||◌, T, ◌⊎◌, ◌↔◌, List, arith}
use Rattle.model.specs.Tasks.{Task, Position, Lawful, Applies, after, IsGoal}
use Rattle.model.specs.Frames.{onto, code}
use Rattle.model.proofs.Coding.{from_codes, to_codes}
use Rattle.shelves.specs.Shelves.{Shelf, covered, Grows}
use Rattle.shelves.specs.Closed.{Closed, ClosedCodes}
use Rattle.shelves.proofs.Growing.{covered_grows}

-- what a closed set asks of its member p
abbrev pub Member : Task → List Shelf → ℕ → (ℕ → Bool) → Position → Type 0
Member t ss f set p =
    T (covered t ss f p) ⊎ ((IsGoal (onto f t) p → ⊥) × ((o : ℕ) → o < t.m → Applies (onto f t) o p → T (set (code t f (after (onto f t) o p))) ⊎ T (covered t ss f (after (onto f t) o p))))

pub closed_codes : (t : Task) → Lawful t → (ss : List Shelf) (f : ℕ) (set : ℕ → Bool) → Closed t ss f set ↔ ClosedCodes t ss f set
closed_codes t law ss f set = let Q : ℕ → Position → Type 0 = λ c p. T (set c) → Member t ss f set p in (to_codes t law f Q, from_codes t law f Q)

pub closed_grows : (t : Task) (ss ss' : List Shelf) (f : ℕ) (set : ℕ → Bool) → Grows ss ss' → Closed t ss f set → Closed t ss' f set
closed_grows t ss ss' f set g closed p h b =
    grind (arith, closed p h, covered_grows t p f ss ss' g, λ (o : ℕ). covered_grows t (after (onto f t) o p) f ss ss' g)

pub closed_union : (t : Task) (ss : List Shelf) (f : ℕ) (a b : ℕ → Bool) → Closed t ss f a → Closed t ss f b → Closed t ss f (λ c. a c || b c)
closed_union t ss f a b ca cb p h u = grind (arith, ca p h, cb p h)
