use Rattle.register.proofs.Opening.{ones_sized}
use Rattle.register.proofs.register.Register.new.Goals as goal

pub invariant_of-result-clause-beyond : goal.invariant_of-result-clause-beyond
invariant_of-result-clause-beyond c v h = ones_sized v
