-- The number, layer and place of each fault of a position, and the order in which they are tried.
use Rattle.std.specs.Prelude.{ℕ, List, [], ◌∷◌}
use Rattle.task.specs.declared.refusal.Refusal.{Refusal}
use Rattle.task.specs.declared.refusal.Layer.TheVariants.{Register}
use Rattle.position.specs.declared.fault.PositionFault.{PositionFault}
use Rattle.position.specs.declared.fault.PositionFault.TheVariants.{WrongCount, NoSuchValue}

abbrev pub position_refusal : PositionFault → Refusal
position_refusal (WrongCount n) = record { number = 15; layer = Register; place = (n, 0) }
position_refusal (NoSuchValue i) = record { number = 15; layer = Register; place = (i, 0) }

-- the count, then the values from the lowest index on
abbrev pub position_turn : PositionFault → List ℕ
position_turn (WrongCount n) = 15 ∷ 0 ∷ 0 ∷ []
position_turn (NoSuchValue i) = 15 ∷ 1 ∷ i ∷ []
