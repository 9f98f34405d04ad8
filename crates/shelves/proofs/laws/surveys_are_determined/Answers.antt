use Rattle.shelves.proofs.Rounding.{surveys_determined}
use Rattle.shelves.proofs.laws.surveys_are_determined.Goals as goal

pub returns : goal.returns
returns c = surveys_determined
