use Rattle.std.proofs.Common.{◌≡◌}
use Rattle.model.specs.Tasks.{position}
use Rattle.model.specs.Frames.{code_by}
use Rattle.frame.specs.Held.{size_in}
use Rattle.frame.proofs.frame.Frame.code.Given as goal

abbrev pub invariant-loop-v : goal.invariant-loop-v
invariant-loop-v l = l.code ≡ code_by (size_in l.self.sizes) l.self.mask (position l.values) l.v
