use Rattle.std.proofs.Common.{◌≡◌, Ok}
use Rattle.checks.specs.Closing.{Fits}
use Rattle.checks.proofs.Sealing.{SealedBelow, KeptBelow}
use Rattle.checks.proofs.closed.Claim.check.Given as goal

-- at the codes so far the set is closed
abbrev pub invariant-codes : goal.invariant-codes
invariant-codes g l =
    let t = g.S.TaskSource.task l.source in
    (l.answer ≡ Ok tt) × (Fits t l.self.frame.now l.self.shelves.records.now → SealedBelow t l.self l.c)

-- and the operators so far do not lead out
abbrev pub invariant-loop-o : goal.invariant-loop-o
invariant-loop-o g l =
    let t = g.S.TaskSource.task l.source in
    (l.answer ≡ Ok tt) × (Fits t l.self.frame.now l.self.shelves.records.now → KeptBelow t l.self l.c l.o)
