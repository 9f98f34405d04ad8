-- What is wrong with a list of values that is to be a position of a task.
use Rattle.std.specs.Prelude.{◌≡◌, ℕ, ◌<◌, ◌≤◌, List, length, Ok, Err, Result, ◌≢◌, slice_index}
use Rattle.model.specs.Tasks.{Task, Legal, position}
use Rattle.model.specs.Orders.{First}
use Rattle.position.specs.declared.fault.PositionFault.{PositionFault}
use Rattle.position.specs.declared.fault.PositionFault.TheVariants.{WrongCount, NoSuchValue}
use Rattle.position.specs.Faults.{position_turn}

-- the value at i is not below its variable's size
abbrev pub Stray : Task → List ℕ → ℕ → Type 0
Stray t xs i = (i < length xs) × (t.size i ≤ slice_index xs i)

abbrev pub PositionWrong : Task → List ℕ → PositionFault → Type 0
PositionWrong t xs (WrongCount n) = (n ≡ t.n) × (length xs ≢ n)
PositionWrong t xs (NoSuchValue i) = Stray t xs i

-- values are accepted exactly where nothing is wrong with them, and then they are a position
abbrev pub Checked : {A : Type 0} → Task → List ℕ → Result A PositionFault → Type 0
Checked t xs (Ok _) = ((e : PositionFault) → PositionWrong t xs e → ⊥) × (length xs ≡ t.n) × Legal t (position xs)
Checked t xs (Err e) = First position_turn (PositionWrong t xs) e
