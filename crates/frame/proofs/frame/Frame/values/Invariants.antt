use Rattle.std.proofs.Common.{◌≡◌, ℕ, ◌<◌, length}
use Rattle.model.specs.Tasks.{position}
use Rattle.frame.specs.Codes.{values_of}
use Rattle.frame.proofs.frame.Frame.values.Given as goal

abbrev pub invariant-loop-v : goal.invariant-loop-v
invariant-loop-v l = (length l.value-items ≡ l.self.n) × ((u : ℕ) → u < l.v → position l.value-items u ≡ values_of l.self l.code u)
