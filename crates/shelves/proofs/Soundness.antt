-- A closed set that rests on hopeless shelves is hopeless: in the projection, in the task, and in each task that reduces to it.
use Rattle.std.proofs.Common.{ℕ, Bool, T, ◌⊎◌, List, [], ◌∷◌, sym, subst, inl, inr, ⊎_elim, arith}
use Rattle.model.specs.Tasks.{Task, Position, Legal, Lawful, after, IsGoal, Leads, Hopeless}
use Rattle.model.specs.Reductions.{Reduces, image_of}
use Rattle.model.specs.LeaveOut.{kept}
use Rattle.model.specs.Frames.{strictly_inside, onto, code}
use Rattle.model.proofs.Reducing.{after_legal, hopeless_down}
use Rattle.model.proofs.LeavingOut.{leave_out_lawful, leave_out_reduces}
use Rattle.model.proofs.Insides.{inside_strictly, leave_more_out}
use Rattle.model.proofs.Coding.{code_kept}
use Rattle.shelves.specs.Shelves.{Shelf, held, covered, Each}
use Rattle.shelves.specs.Closed.{Closed}
use Rattle.shelves.specs.Standing.{Sure, ClosedAreHopeless}
use Rattle.shelves.proofs.Shelving.{each_held}

-- what is on a sure shelf is hopeless in each task that the projection onto its frame is one of
pub sure_hopeless : (t : Task) (s : Shelf) → Sure t s → (u : Task) → Lawful u → Reduces u (onto s.frame t) (kept s.frame) → (p : Position) → Legal u p → T (s.bits (code t s.frame p)) → Hopeless u p
sure_hopeless t s sure u law r p h b =
    hopeless_down u (onto s.frame t) (kept s.frame) law r p h
    (sure (image_of (kept s.frame) p) (r.legal p h) (subst (λ c. T (s.bits c)) (sym (code_kept t s.frame p)) b))

module _ (t : Task) (f : ℕ) (law : Lawful t) where
  pub covered_hopeless : (ss : List Shelf) → Each (Sure t) ss → (p : Position) → Legal (onto f t) p → T (covered t ss f p) → Hopeless (onto f t) p
  covered_hopeless [] sure p h c = absurd c
  covered_hopeless (s ∷ ss) sure p h c = ⊎_elim
      (λ (here : T (strictly_inside s.frame f) × T (s.bits (code t s.frame p))).
      let more = leave_more_out s.frame f t (inside_strictly s.frame f here.0) in
      sure_hopeless t s sure.0 (onto f t) (leave_out_lawful f t law) more p h here.1)
      (λ there. covered_hopeless ss sure.1 p h there)
      (grind arith)

  module _ (ss : List Shelf) (sure : Each (Sure t) ss) (set : ℕ → Bool) (closed : Closed t ss f set) where
    never : (os : List ℕ) (p q : Position) → Legal (onto f t) p → T (set (code t f p)) ⊎ T (covered t ss f p) → Leads (onto f t) os p q → IsGoal (onto f t) q → ⊥
    never os p q h (inr c) l g = covered_hopeless ss sure p h c os q l g
    never [] p q h (inl b) l g = ⊎_elim (λ c. covered_hopeless ss sure p h c [] q l g) (λ m. m.0 (subst (IsGoal (onto f t)) (sym l) g)) (closed p h b)
    never (o ∷ os) p q h (inl b) l g = ⊎_elim
        (λ c. covered_hopeless ss sure p h c (o ∷ os) q l g)
        (λ m. never os (after (onto f t) o p) q (after_legal (onto f t) (leave_out_lawful f t law) o p h) (m.1 o l.0 l.1) l.2 g)
        (closed p h b)

    pub closed_hopeless : Sure t (record { frame = f; bits = set })
    closed_hopeless p h b os q l g = never os p q h (inl b) l g

-- ---- in the task, and below it

pub held_hopeless : (t : Task) → Lawful t → (ss : List Shelf) → Each (Sure t) ss → (p : Position) → Legal t p → T (held t ss p) → Hopeless t p
held_hopeless t law ss sure p h on = let (s, fact, b) = each_held (Sure t) t p ss sure on in sure_hopeless t s fact t law (leave_out_reduces s.frame t) p h b

pub held_hopeless_below : (t lower : Task) (image : ℕ → ℕ → ℕ) → Lawful t → Lawful lower → Reduces lower t image
    → (ss : List Shelf) → Each (Sure t) ss → (p : Position) → Legal lower p → T (held t ss (image_of image p)) → Hopeless lower p
held_hopeless_below t lower image law lawful r ss sure p h on = hopeless_down lower t image lawful r p h (held_hopeless t law ss sure (image_of image p) (r.legal p h) on)

pub closed_are_hopeless : ClosedAreHopeless
closed_are_hopeless = record { rests = λ t law ss sure f set closed. closed_hopeless t f law ss sure set closed; here = held_hopeless; below = held_hopeless_below }
