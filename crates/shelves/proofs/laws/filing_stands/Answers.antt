use Rattle.shelves.proofs.Standing.{filing_stands}
use Rattle.shelves.proofs.laws.filing_stands.Goals as goal

pub returns : goal.returns
returns c = filing_stands
