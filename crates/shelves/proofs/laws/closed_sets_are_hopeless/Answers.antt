use Rattle.shelves.proofs.Soundness.{closed_are_hopeless}
use Rattle.shelves.proofs.laws.closed_sets_are_hopeless.Goals as goal

pub returns : goal.returns
returns c = closed_are_hopeless
