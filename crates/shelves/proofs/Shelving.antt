-- Which shelf a position is on, which shelf a frame has, and what holds of each.
use Rattle.std.proofs.Common.{◌≡◌, ℕ, zero, suc, ◌<◌, not, T, List, [], ◌∷◌, length, Some, None, Option, refl, subst, ⊎_elim, arith, T_not}
use lib.Dec.{eqb_refl}
use Rattle.model.specs.Tasks.{Task, Position}
use Rattle.model.specs.Reductions.{image_of}
use Rattle.model.specs.LeaveOut.{kept}
use Rattle.model.specs.Frames.{code}
use Rattle.model.proofs.Insides.{code_inside}
use Rattle.shelves.specs.Shelves.{Shelf, held, held_at, covered, Earliest, has_shelf, place, Each}

-- ---- the shelf that a position is on

module _ (t : Task) (p : Position) where
  pub held_at_held : (ss : List Shelf) (i : ℕ) → T (held_at t ss i p) → T (held t ss p)
  held_at_held [] i h = h
  held_at_held (s ∷ ss) zero h = grind arith
  held_at_held (s ∷ ss) (suc i) h = grind (arith, held_at_held ss i)

  pub held_somewhere : (ss : List Shelf) → T (held t ss p) → (i : ℕ) × T (held_at t ss i p)
  held_somewhere [] h = absurd h
  held_somewhere (s ∷ ss) h = ⊎_elim (λ a. (0, a)) (λ a. let (i, k) = held_somewhere ss a in (suc i, k)) (grind arith)

  pub held_at_below : (ss : List Shelf) (i : ℕ) → T (held_at t ss i p) → i < length ss
  held_at_below [] i h = absurd h
  held_at_below (s ∷ ss) zero h = omega arith
  held_at_below (s ∷ ss) (suc i) h = omega (arith, held_at_below ss i h)

  pub earliest_once : (ss : List Shelf) (a b : Option ℕ) → Earliest t ss p a → Earliest t ss p b → a ≡ b
  earliest_once ss None None x y = refl
  earliest_once ss None (Some j) x y = absurd (x (held_at_held ss j y.0))
  earliest_once ss (Some i) None x y = absurd (y (held_at_held ss i x.0))
  earliest_once ss (Some i) (Some j) x y = grind (arith, x.1 j, y.1 i)

  pub covered_held : (f : ℕ) (ss : List Shelf) → T (covered t ss f p) → T (held t ss p)
  covered_held f [] c = c
  covered_held f (s ∷ ss) c = grind (arith, covered_held f ss)

  -- a position is covered where its image in the projection is
  pub covered_kept : (f : ℕ) (ss : List Shelf) → covered t ss f (image_of (kept f) p) ≡ covered t ss f p
  covered_kept f [] = refl
  covered_kept f (s ∷ ss) = grind (arith, code_inside t s.frame f, covered_kept f ss)

-- ---- what holds of each shelf

pub each_weaker : (P Q : Shelf → Type 0) → ((s : Shelf) → P s → Q s) → (ss : List Shelf) → Each P ss → Each Q ss
each_weaker P Q f [] e = tt
each_weaker P Q f (s ∷ ss) e = (f s e.0, each_weaker P Q f ss e.1)

pub each_both : (P Q : Shelf → Type 0) (ss : List Shelf) → Each P ss → Each Q ss → Each (λ s. P s × Q s) ss
each_both P Q [] d e = tt
each_both P Q (s ∷ ss) d e = ((d.0, e.0), each_both P Q ss d.1 e.1)

pub each_held : (P : Shelf → Type 0) (t : Task) (p : Position) (ss : List Shelf) → Each P ss → T (held t ss p) → (s : Shelf) × P s × T (s.bits (code t s.frame p))
each_held P t p [] e h = absurd h
each_held P t p (s ∷ ss) e h = ⊎_elim (λ a. (s, e.0, a)) (λ a. each_held P t p ss e.1 a) (grind arith)

-- ---- the shelf of a frame

pub each_has_shelf : (ss : List Shelf) → Each (λ r. T (has_shelf ss r.frame)) ss
each_has_shelf [] = tt
each_has_shelf (s ∷ ss) = (
  grind (arith, eqb_refl s.frame),
  each_weaker (λ r. T (has_shelf ss r.frame)) (λ r. T (has_shelf (s ∷ ss) r.frame)) (λ r h. grind arith) ss (each_has_shelf ss),
)

pub no_shelf : (ss : List Shelf) (f : ℕ) → T (not (has_shelf ss f)) → Each (λ s. s.frame ≡ f → ⊥) ss
no_shelf ss f h = each_weaker (λ r. T (has_shelf ss r.frame)) (λ r. r.frame ≡ f → ⊥) (λ r k e. T_not (has_shelf ss f) h (subst (λ g. T (has_shelf ss g)) e k)) ss (each_has_shelf ss)

pub place_below : (ss : List Shelf) (f : ℕ) → T (has_shelf ss f) → place ss f < length ss
place_below [] f h = absurd h
place_below (s ∷ ss) f h = grind (arith, place_below ss f)
