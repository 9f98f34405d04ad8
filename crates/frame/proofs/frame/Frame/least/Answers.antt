use Rattle.std.proofs.Common.{arith}
use Rattle.frame.proofs.Measuring.{ones}
use Rattle.frame.proofs.frame.Frame.least.Goals as goal

pub invariant_of-result-clause-sized : goal.invariant_of-result-clause-sized
invariant_of-result-clause-sized c v h = (omega (arith, ones v h), omega (arith, ones v h))

pub invariant_of-result-clause-rest : goal.invariant_of-result-clause-rest
invariant_of-result-clause-rest c v l h = ones v h
