use Rattle.std.proofs.Common.{◌≡◌, ℕ, ◌<◌, length}
use Rattle.model.specs.Tasks.{after, position}
use Rattle.model.specs.Frames.{onto}
use Rattle.frame.specs.Codes.{values_of}
use Rattle.frame.proofs.frame.Frame.made.Given as goal

abbrev pub invariant-loop-v : goal.invariant-loop-v
invariant-loop-v g l =
    (length l.value-items ≡ l.self.n)
    × ((u : ℕ) → u < l.v → position l.value-items u ≡ after (onto l.self.mask (g.S.TaskSource.task l.source)) l.o (values_of l.self l.c) u)
