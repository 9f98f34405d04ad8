-- Positions in memory: what lies past the variables of a task.
use Rattle.std.proofs.Common.{◌≡◌, ℕ, ◌<◌, ◌≤◌, List, length, unwrap_or, arith}
use mathlib.Core.Path.{fun_ext}
use Rattle.std.proofs.lemmas.Grind.{common_steps}
use Rattle.std.proofs.lemmas.List.FromFn.{get_or-map-range_with_len, length-map-range_with_len}
use Rattle.std.proofs.lemmas.List.{get_or_past}
use Rattle.model.specs.Tasks.{Task, Position, Lawful, Holds, Applies, IsGoal, after, below, position, advanced}

-- a list that has each value of a position below n, and 0 from n on as the position has, gives the position
pub position_all : (p : Position) (xs : List ℕ) (n : ℕ) → ((v : ℕ) → v < n → position xs v ≡ p v) → ((v : ℕ) → n ≤ v → position xs v ≡ 0) → ((v : ℕ) → n ≤ v → p v ≡ 0) → position xs ≡ p
position_all p xs n low past none = fun_ext (λ v. grind (arith, low v, past v, none v))

module _ (t : Task) (law : Lawful t) where
  pub start_outside : (v : ℕ) → t.n ≤ v → t.start v ≡ 0
  start_outside v h = omega (arith, law.starts v, law.outside v h)

  -- the start value that a question tells, or 0
  pub start_told : (v : ℕ) → unwrap_or (below v t.n (t.start v)) 0 ≡ t.start v
  start_told v = grind (arith, start_outside v)

  -- a list of 32 values that has the start value of each is the start position
  pub start_all : (xs : List ℕ) → length xs ≡ 32 → ((v : ℕ) → v < 32 → position xs v ≡ t.start v) → position xs ≡ t.start
  start_all xs e h = fun_ext (λ v. grind (arith, h v, get_or_past xs v 0, start_outside v, law.variables))

  -- only the task's own variables count
  pub applies_below : (o : ℕ) (p : Position) → ((v : ℕ) → v < t.n → Holds (t.needed o v) (p v)) → Applies t o p
  unfolding Applies
  applies_below o p h v = grind (arith, h v, law.no_needs o v)

  pub goal_below : (p : Position) → ((v : ℕ) → v < t.n → Holds (t.goal v) (p v)) → IsGoal t p
  goal_below p h v = grind (arith, h v, law.no_goals v)

  -- a list that has each variable holds the position that the operator leads to
  pub advanced_position : (o : ℕ) (xs : List ℕ) → t.n ≤ length xs → position (advanced t o xs) ≡ after t o (position xs)
  advanced_position o xs long =
      fun_ext (λ v. grind (arith, common_steps, law.no_makes o v, get_or-map-range_with_len, length-map-range_with_len))

pub applies_needs : (t : Task) (o : ℕ) (p : Position) → Applies t o p → (v : ℕ) → Holds (t.needed o v) (p v)
unfolding Applies
applies_needs t o p h = h

pub applies_all : (t : Task) (o : ℕ) (p : Position) → ((v : ℕ) → Holds (t.needed o v) (p v)) → Applies t o p
unfolding Applies
applies_all t o p h = h
