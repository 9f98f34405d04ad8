-- A survey's set: the greatest closed one without the covered codes, the only one, and what a loop over marks makes of it.
use Rattle.std.proofs.Common.{◌≡◌, ℕ, ◌<◌, Bool, not, ◌&&◌, T, ◌⊎◌, List, [], ◌∷◌, subst, inl, inr, ⊎_elim, arith, T_not}
use mathlib.Core.Path.{fun_ext}
use Rattle.model.specs.Tasks.{Task, Position, Legal, Lawful, Applies, after, IsGoal}
use Rattle.model.specs.Frames.{onto, code, frame_size, values}
use Rattle.model.proofs.Reducing.{after_legal}
use Rattle.model.proofs.LeavingOut.{leave_out_lawful}
use Rattle.model.proofs.Coding.{values_legal, code_values}
use Rattle.shelves.specs.Shelves.{Shelf, covered}
use Rattle.shelves.specs.Closed.{Closed}
use Rattle.shelves.specs.Surveys.{Reaches, Surveyed, Files, SurveysGreatest}

pub reaches_uncovered : (t : Task) (ss : List Shelf) (f : ℕ) (os : List ℕ) (p : Position) → Reaches t ss f os p → T (not (covered t ss f p))
reaches_uncovered t ss f [] p r = r.0
reaches_uncovered t ss f (o ∷ os) p r = r.0

-- ---- the greatest closed set

module _ (t : Task) (law : Lawful t) (ss : List Shelf) (f : ℕ) where
  pub surveyed_closed : (set : ℕ → Bool) → Surveyed t ss f set → Closed t ss f set
  surveyed_closed set s p h b =
      let m = (s p h).0 b in
      inr (
        (λ g. m.1 [] (m.0, g)),
        λ o l a.
            let q : Position = after (onto f t) o p in
            let legal : Legal (onto f t) q = after_legal (onto f t) (leave_out_lawful f t law) o p h in
            ⊎_elim inr
            (λ (free : T (not (covered t ss f q))). inl ((s q legal).1 (free, λ os r. m.1 (o ∷ os) (m.0, l, a, r))))
            (grind arith),
      )

  -- it has each position of a closed set, or a set like one, that is not covered
  module _ (C : Position → Type 0)
      (closed : (p : Position) → Legal (onto f t) p → C p → T (covered t ss f p) ⊎ ((IsGoal (onto f t) p → ⊥) × ((o : ℕ) → o < t.m → Applies (onto f t) o p → C (after (onto f t) o p) ⊎ T (covered t ss f (after (onto f t) o p))))) where
    never : (os : List ℕ) (p : Position) → Legal (onto f t) p → C p → Reaches t ss f os p → ⊥
    never [] p h c r = ⊎_elim (λ k. T_not _ r.0 k) (λ m. m.0 r.1) (closed p h c)
    never (o ∷ os) p h c r = ⊎_elim
        (λ k. T_not _ r.0 k)
        (λ m. ⊎_elim
        (λ d. never os (after (onto f t) o p) (after_legal (onto f t) (leave_out_lawful f t law) o p h) d r.3)
        (λ k. T_not _ (reaches_uncovered t ss f os (after (onto f t) o p) r.3) k)
        (m.1 o r.1 r.2))
        (closed p h c)

    pub surveyed_has : (set : ℕ → Bool) → Surveyed t ss f set → (p : Position) → Legal (onto f t) p → C p → T (covered t ss f p) ⊎ T (set (code t f p))
    surveyed_has set s p h c = grind (arith, (s p h).1, λ (os : List ℕ). never os p h c)

pub surveys_greatest : SurveysGreatest
surveys_greatest t law ss f set s = record {
  closed = surveyed_closed t law ss f set s;
  uncovered = λ p h b k. T_not _ ((s p h).0 b).0 k;
  greatest = λ other closed. surveyed_has t law ss f (λ (p : Position). T (other (code t f p))) closed set s;
}

-- ---- the only one

module _ (t : Task) (law : Lawful t) (ss : List Shelf) (f : ℕ) (a b : ℕ → Bool) where
  pub surveyed_once : Surveyed t ss f a → Surveyed t ss f b → (c : ℕ) → c < frame_size t f → a c ≡ b c
  surveyed_once x y c h =
      let p : Position = values t f c in
      let l : Legal (onto f t) p = values_legal t law f c in
      subst (λ d. a d ≡ b d) (code_values t law f c h) (grind (arith, x p l, y p l))

  pub files_once : Files t ss f a → Files t ss f b → a ≡ b
  files_once x y = fun_ext (λ c. grind (arith, surveyed_once x.0 y.0 c, x.1 c, y.1 c))

-- ---- marks

-- The marked codes reach the goal, the uncovered goal codes are marked, and so is each uncovered code that an operator leads from to a
-- marked one.
pub record Marked (t : Task) (ss : List Shelf) (f : ℕ) (marks : ℕ → Bool) : Type 0 where
  pub reach : (p : Position) → Legal (onto f t) p → T (marks (code t f p)) → (os : List ℕ) × Reaches t ss f os p
  pub goals : (p : Position) → Legal (onto f t) p → T (not (covered t ss f p)) → IsGoal (onto f t) p → T (marks (code t f p))
  pub back : (o : ℕ) (p : Position) → Legal (onto f t) p → T (not (covered t ss f p)) → o < t.m → Applies (onto f t) o p → T (marks (code t f (after (onto f t) o p))) → T (marks (code t f p))

module _ (t : Task) (law : Lawful t) (ss : List Shelf) (f : ℕ) (marks : ℕ → Bool) (m : Marked t ss f marks) where
  pub reaches_marked : (os : List ℕ) (p : Position) → Legal (onto f t) p → Reaches t ss f os p → T (marks (code t f p))
  reaches_marked [] p h r = m.goals p h r.0 r.1
  reaches_marked (o ∷ os) p h r = m.back o p h r.0 r.1 r.2 (reaches_marked os (after (onto f t) o p) (after_legal (onto f t) (leave_out_lawful f t law) o p h) r.3)

  -- the codes that are neither hidden nor marked, where the hidden ones are the covered
  pub marked_surveyed : (hidden : ℕ → Bool) → ((p : Position) → Legal (onto f t) p → hidden (code t f p) ≡ covered t ss f p) → Surveyed t ss f (λ c. not (hidden c) && not (marks c))
  marked_surveyed hidden same p h = grind (arith, same p h, m.reach p h, λ (os : List ℕ). reaches_marked os p h)
