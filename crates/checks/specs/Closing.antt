-- What the test of a claim's set goes by, code by code.
use Rattle.std.specs.Prelude.{◌≡◌, ℕ, ◌<◌, Bool, List}
use Rattle.model.specs.Tasks.{Task, IsGoal}
use Rattle.model.specs.Frames.{onto, values}
use Rattle.frame.specs.declared.frame.Frame.{Frame}
use Rattle.frame.specs.Held.{size_in}
use Rattle.frame.specs.Codes.{values_of}
use Rattle.shelves.specs.Shelves as shelves
use Rattle.records.specs.declared.shelf.Shelf.{Shelf}
use Rattle.records.specs.Records.{covered_in, Framed}
use Rattle.checks.specs.declared.closed.Claim.{Claim}
use Rattle.checks.specs.Wrong.{Open, Leaves}

-- the code stands for a position on a shelf whose frame lies strictly inside the claim's
abbrev pub code_covered : Claim → ℕ → Bool
code_covered q c = covered_in q.shelves.pool.now q.shelves.records.now q.frame.now.mask (values_of q.frame.now c)

-- the frame and the shelves' frames are frames of the task
abbrev pub Fits : Task → Frame → List Shelf → Type 0
Fits t frame rs = (frame.n ≡ t.n) × (size_in frame.sizes ≡ t.size) × Framed t.n t.size rs

-- nothing leads out of the set at the code c, nor is a goal met
abbrev pub Sealed : Task → List shelves.Shelf → ℕ → (ℕ → Bool) → ℕ → Type 0
Sealed t ss f set c = Open t ss f set c → (IsGoal (onto f t) (values t f c) → ⊥) × ((o : ℕ) → o < t.m → Leaves t ss f set c o → ⊥)
