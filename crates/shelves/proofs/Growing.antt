-- Lists of shelves that grow: what is on a shelf stays there.
use Rattle.std.proofs.Common.{ℕ, zero, suc, T, List, [], ◌∷◌, refl, ◌∙◌, arith}
use Rattle.model.specs.Tasks.{Task, Position}
use Rattle.model.specs.Frames.{code}
use Rattle.shelves.specs.Shelves.{Shelf, held, held_at, covered, Grows}

pub grows_self : (ss : List Shelf) → Grows ss ss
grows_self [] = tt
grows_self (s ∷ ss) = (refl, (λ c h. h), grows_self ss)

pub grows_on : (xs ys zs : List Shelf) → Grows xs ys → Grows ys zs → Grows xs zs
grows_on [] ys zs g h = tt
grows_on (x ∷ xs) [] zs g h = absurd g
grows_on (x ∷ xs) (y ∷ ys) [] g h = absurd h
grows_on (x ∷ xs) (y ∷ ys) (z ∷ zs) g h = (h.0 ∙ g.0, (λ c b. h.1 c (g.1 c b)), grows_on xs ys zs g.2 h.2)

module _ (t : Task) (p : Position) where
  pub held_grows : (ss ss' : List Shelf) → Grows ss ss' → T (held t ss p) → T (held t ss' p)
  held_grows [] ss' g h = absurd h
  held_grows (s ∷ ss) [] g h = absurd g
  held_grows (s ∷ ss) (s' ∷ ss') g h = grind (arith, g.1 (code t s.frame p), held_grows ss ss')

  pub held_at_grows : (ss ss' : List Shelf) (i : ℕ) → Grows ss ss' → T (held_at t ss i p) → T (held_at t ss' i p)
  held_at_grows [] ss' i g h = absurd h
  held_at_grows (s ∷ ss) [] i g h = absurd g
  held_at_grows (s ∷ ss) (s' ∷ ss') zero g h = grind (arith, g.1 (code t s.frame p))
  held_at_grows (s ∷ ss) (s' ∷ ss') (suc i) g h = held_at_grows ss ss' i g.2 h

  pub covered_grows : (f : ℕ) (ss ss' : List Shelf) → Grows ss ss' → T (covered t ss f p) → T (covered t ss' f p)
  covered_grows f [] ss' g h = absurd h
  covered_grows f (s ∷ ss) [] g h = absurd g
  covered_grows f (s ∷ ss) (s' ∷ ss') g h = grind (arith, g.1 (code t s.frame p), covered_grows f ss ss')
