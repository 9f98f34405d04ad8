-- What is wrong with a leave-out or a join over a task, and what is answered to a layer that is set over it.
use Rattle.std.specs.Prelude.{◌≡◌, ℕ, ◌<◌, ◌≤◌, true, List, [], ◌∷◌, ◌++◌, Ok, Err, Result}
use Rattle.model.specs.Tasks.{Task}
use Rattle.model.specs.Orders.{First}
use Rattle.model.specs.LeaveOut.{has}
use Rattle.reduction.specs.declared.fault.ReductionFault.{ReductionFault}
use Rattle.reduction.specs.declared.fault.ReductionFault.TheVariants.{EmptyMask, NoSuchVariable, BadJoin}
use Rattle.reduction.specs.declared.fault.PutError.{PutError}
use Rattle.reduction.specs.declared.fault.PutError.TheVariants.{Declined, OutOfMemory}
use Rattle.reduction.specs.Faults.{reduction_turn}

-- with keeping the variables of a mask: there is none, or one that the task has not
abbrev pub MaskWrong : Task → ℕ → ReductionFault → Type 0
MaskWrong t mask EmptyMask = mask ≡ 0
MaskWrong t mask (NoSuchVariable v) = (t.n ≤ v) × (has mask v ≡ true)
MaskWrong t mask (BadJoin v) = ⊥

-- with joining the values a and b of the variable v: it is not one of the task's, or not a < b < its size
abbrev pub JoinWrong : Task → ℕ → ℕ → ℕ → ReductionFault → Type 0
JoinWrong t v a b EmptyMask = ⊥
JoinWrong t v a b (NoSuchVariable u) = ⊥
JoinWrong t v a b (BadJoin u) = (u ≡ v) × ((v < t.n) × (a < b) × (b < t.size v) → ⊥)

-- the test answers what is tried first of all that is wrong, and accepts exactly where nothing is
abbrev pub Tests : {A : Type 0} → (ReductionFault → Type 0) → Result A ReductionFault → Type 0
Tests Wrong (Ok _) = (e : ReductionFault) → Wrong e → ⊥
Tests Wrong (Err e) = First reduction_turn Wrong e

-- the same of a call that puts a layer on top, where there may be no memory for one that is accepted
abbrev pub PutTests : (ReductionFault → Type 0) → Result (Unit {0}) PutError → Type 0
PutTests Wrong (Ok _) = (e : ReductionFault) → Wrong e → ⊥
PutTests Wrong (Err (Declined e)) = First reduction_turn Wrong e
PutTests Wrong (Err (OutOfMemory _)) = (e : ReductionFault) → Wrong e → ⊥

-- what a call that puts the layer l on top answers, and what it leaves: one layer more where it is accepted, and else the same
abbrev pub Puts : {L : Type 0} → L → List L → Result (Unit {0}) PutError → List L → Type 0
Puts l ls (Ok _) after = after ≡ ls ++ (l ∷ [])
Puts l ls (Err e) after = after ≡ ls
