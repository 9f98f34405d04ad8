-- Where an operator leads from a code: by a task, over sizes, a mask and a number of variables.
use Rattle.std.specs.Prelude.{◌≡◌, ℕ, Some, None, Option}
use Rattle.model.specs.Tasks.{Task, Applies, after}
use Rattle.model.specs.Frames.{code_by, values_by}

abbrev pub LeadsTo : Task → (ℕ → ℕ) → ℕ → ℕ → ℕ → ℕ → Option ℕ → Type 0
LeadsTo t size mask n o c (Some d) = Applies t o (values_by size mask c) × (d ≡ code_by size mask (after t o (values_by size mask c)) n)
LeadsTo t size mask n o c None = Applies t o (values_by size mask c) → ⊥
