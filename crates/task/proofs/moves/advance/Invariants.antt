use Rattle.std.proofs.Common.{◌≡◌, ℕ, ◌<◌, ◌≤◌}
use Rattle.model.specs.Tasks.{after, position}
use Rattle.task.proofs.moves.advance.Given as goal

abbrev pub invariant-loop-v : goal.invariant-loop-v
invariant-loop-v g l =
    ((u : ℕ) → u < l.v → position l.values u ≡ after (g.S.TaskSource.task l.source) l.o (position l.initial.values) u)
    × ((u : ℕ) → l.v ≤ u → position l.values u ≡ position l.initial.values u)
