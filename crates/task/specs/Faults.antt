-- The number, layer and place of each fault of a list of operators, and the order in which they are tried.
use Rattle.std.specs.Prelude.{ℕ, List, [], ◌∷◌}
use Rattle.task.specs.declared.refusal.Refusal.{Refusal}
use Rattle.task.specs.declared.refusal.Layer.TheVariants.{Register}
use Rattle.task.specs.declared.fault.PlanFault.{PlanFault}
use Rattle.task.specs.declared.fault.PlanFault.TheVariants.{TooLong, NoSuchOperator, DoesNotApply, MissesGoal}

abbrev pub plan_refusal : PlanFault → Refusal
plan_refusal TooLong = record { number = 16; layer = Register; place = (16383, 0) }
plan_refusal (NoSuchOperator i) = record { number = 16; layer = Register; place = (i, 0) }
plan_refusal (DoesNotApply i) = record { number = 17; layer = Register; place = (i, 0) }
plan_refusal (MissesGoal v) = record { number = 18; layer = Register; place = (v, 0) }

-- When a fault is tried, compared at the first difference: by numbers, the length before the operators, and from the lowest place on.
abbrev pub plan_turn : PlanFault → List ℕ
plan_turn TooLong = 16 ∷ 0 ∷ 0 ∷ []
plan_turn (NoSuchOperator i) = 16 ∷ 1 ∷ i ∷ []
plan_turn (DoesNotApply i) = 17 ∷ 0 ∷ i ∷ []
plan_turn (MissesGoal v) = 18 ∷ 0 ∷ v ∷ []
