-- The number, layer and place of each fault of a leave-out and of a join, and the order in which they are tried.
use Rattle.std.specs.Prelude.{ℕ, List, [], ◌∷◌}
use Rattle.task.specs.declared.refusal.Refusal.{Refusal}
use Rattle.task.specs.declared.refusal.Layer.TheVariants.{Reduction}
use Rattle.reduction.specs.declared.fault.ReductionFault.{ReductionFault}
use Rattle.reduction.specs.declared.fault.ReductionFault.TheVariants.{EmptyMask, NoSuchVariable, BadJoin}

abbrev pub reduction_refusal : ReductionFault → Refusal
reduction_refusal EmptyMask = record { number = 10; layer = Reduction; place = (32, 0) }
reduction_refusal (NoSuchVariable v) = record { number = 10; layer = Reduction; place = (v, 0) }
reduction_refusal (BadJoin v) = record { number = 20; layer = Reduction; place = (v, 0) }

-- an empty mask before a variable that is not there, and of these the lowest
abbrev pub reduction_turn : ReductionFault → List ℕ
reduction_turn EmptyMask = 10 ∷ 0 ∷ 0 ∷ []
reduction_turn (NoSuchVariable v) = 10 ∷ 1 ∷ v ∷ []
reduction_turn (BadJoin v) = 20 ∷ 0 ∷ v ∷ []
