-- What is wrong with a list of operators that is to be followed, or to be a plan, and what its check answers.
use Rattle.std.specs.Prelude.{◌≡◌, ℕ, ◌<◌, ◌≤◌, ◌⊎◌, List, ◌∷◌, ◌++◌, length, Ok, Err, Result, slice_index}
use Rattle.model.specs.Tasks.{Task, Position, Holds, Applies, Leads, Plan, position}
use Rattle.model.specs.Orders.{First}
use Rattle.task.specs.declared.fault.PlanFault.{PlanFault}
use Rattle.task.specs.declared.fault.PlanFault.TheVariants.{TooLong, NoSuchOperator, DoesNotApply, MissesGoal}
use Rattle.task.specs.Faults.{plan_turn}

-- the operators cannot be followed from the start
pub data FollowWrong (t : Task) (os : List ℕ) : PlanFault → Type 0 where
  long : 16383 < length os → FollowWrong t os TooLong
  unknown : (i : ℕ) → i < length os → t.m ≤ slice_index os i → FollowWrong t os (NoSuchOperator i)
  blocked : (before rest : List ℕ) (o : ℕ) (p : Position) → os ≡ before ++ (o ∷ rest) → Leads t before t.start p → (Applies t o p → ⊥) → FollowWrong t os (DoesNotApply (length before))

-- the operators can be followed, and miss the goal
pub data GoalWrong (t : Task) (os : List ℕ) : PlanFault → Type 0 where
  misses : (v : ℕ) (q : Position) → Leads t os t.start q → (Holds (t.goal v) (q v) → ⊥) → GoalWrong t os (MissesGoal v)

abbrev pub PlanWrong : Task → List ℕ → PlanFault → Type 0
PlanWrong t os e = FollowWrong t os e ⊎ GoalWrong t os e

-- what following answers: the values of the position reached, or what is tried first of all that is wrong
abbrev pub Follows : Task → List ℕ → Result (List ℕ) PlanFault → Type 0
Follows t os (Ok values) = Leads t os t.start (position values)
Follows t os (Err e) = First plan_turn (FollowWrong t os) e

abbrev pub Followed : Task → List ℕ → Type 0
Followed t os = (length os ≤ 16383) × ((q : Position) × Leads t os t.start q)

-- what the check of a plan answers: its length, or what is tried first of all that is wrong
abbrev pub Judges : Task → List ℕ → Result ℕ PlanFault → Type 0
Judges t os (Ok l) = l ≡ length os
Judges t os (Err e) = First plan_turn (PlanWrong t os) e

abbrev pub Accepted : Task → List ℕ → Type 0
Accepted t os = (length os ≤ 16383) × Plan t os
