-- What stands in a register that closed sets and plans alone have filled.
use Rattle.std.specs.Prelude.{◌≡◌, ℕ, ◌^◌, ◌<◌, ◌≤◌, Bool, T, ◌⊎◌, List, length, count_ones}
use Rattle.model.specs.Tasks.{Task, Position, Legal, Lawful, Hopeless, Plan}
use Rattle.model.specs.Reductions.{Reduces, image_of}
use Rattle.model.specs.Frames.{onto, code, frame_size, IsFrame}
use Rattle.shelves.specs.declared.verdict.Verdict.{Verdict}
use Rattle.shelves.specs.declared.verdict.Verdict.TheVariants as verdict
use Rattle.shelves.specs.Shelves.{Shelf, held, held_at, Each, Grows, Apart}
use Rattle.shelves.specs.Closed.{Closed}
use Rattle.shelves.specs.Filing.{State, opened, filed, planned}

-- ---- the shelves

-- each position on the shelf is hopeless in the projection onto the shelf's frame
abbrev pub Sure : Task → Shelf → Type 0
Sure t s = (p : Position) → Legal (onto s.frame t) p → T (s.bits (code t s.frame p)) → Hopeless (onto s.frame t) p

-- the set has no code past the frame's size
abbrev pub Fits : Task → ℕ → (ℕ → Bool) → Type 0
Fits t f set = (c : ℕ) → T (set c) → c < frame_size t f

-- each shelf has a closed set, of a frame that no other has, and no code past the frame's size
pub record Ordered (t : Task) (ss : List Shelf) : Type 0 where
  pub closed : Each (λ s. Closed t ss s.frame s.bits) ss
  pub frames : Each (λ s. IsFrame t s.frame) ss
  pub apart : Apart ss
  pub fits : Each (λ s. Fits t s.frame s.bits) ss

-- ---- the verdict and the whole

-- what the verdict says is so, and an open one has not been overtaken
abbrev pub Right : Task → List Shelf → Verdict → Type 0
Right t ss verdict.Open = T (held t ss t.start) → ⊥
Right t ss (verdict.Hopeless i) = T (held_at t ss i t.start)
Right t ss (verdict.Feasible l) = (os : List ℕ) × (length os ≡ l) × Plan t os

-- a state that an opening, closed sets and plans alone have made
pub record Good (t : Task) (s : State) : Type 0 where
  pub sure : Each (Sure t) s.shelves
  pub ordered : Ordered t s.shelves
  pub right : Right t s.shelves s.verdict
  pub same : (s.n ≡ t.n) × (s.sizes ≡ t.size)

-- no shelf loses its number, its frame or a set bit, no verdict but an open one changes, and the opening's sizes stay
abbrev pub Keeps : State → State → Type 0
Keeps s s' = Grows s.shelves s'.shelves × ((s.verdict ≡ verdict.Open) ⊎ (s'.verdict ≡ s.verdict)) × ((s'.n ≡ s.n) × (s'.sizes ≡ s.sizes))

-- some projection onto at most k variables has no plan
abbrev pub NoPlanWithin : Task → ℕ → Type 0
NoPlanWithin t k = (f : ℕ) × (f < 2 ^ t.n) × (count_ones f ≤ k) × ((os : List ℕ) → Plan (onto f t) os → ⊥)

-- ---- the laws

-- A closed set that rests on sure shelves makes a sure shelf. What is on one is hopeless in the task, and in each task that reduces to it.
pub record ClosedAreHopeless : Type 0 where
  pub rests : (t : Task) → Lawful t → (ss : List Shelf) → Each (Sure t) ss → (f : ℕ) (set : ℕ → Bool) → Closed t ss f set → Sure t (record { frame = f; bits = set })
  pub here : (t : Task) → Lawful t → (ss : List Shelf) → Each (Sure t) ss → (p : Position) → Legal t p → T (held t ss p) → Hopeless t p
  pub below : (t lower : Task) (image : ℕ → ℕ → ℕ) → Lawful t → Lawful lower → Reduces lower t image →
      (ss : List Shelf) → Each (Sure t) ss → (p : Position) → Legal lower p → T (held t ss (image_of image p)) → Hopeless lower p

-- an opening, each filing of a closed set and each plan leave what stands, and take nothing back
pub record FilingStands : Type 0 where
  pub opening : (t : Task) → Good t (opened t)
  pub filing : (t : Task) → Lawful t → (s : State) (f : ℕ) (set : ℕ → Bool) → Good t s → IsFrame t f → Fits t f set → Closed t s.shelves f set → Good t (filed t s f set)
  pub planning : (t : Task) (s : State) (os : List ℕ) → Plan t os → Good t s → Good t (planned s (length os))
  pub filing_keeps : (t : Task) (s : State) (f : ℕ) (set : ℕ → Bool) → Keeps s (filed t s f set)
  pub planning_keeps : (s : State) (l : ℕ) → Keeps s (planned s l)
