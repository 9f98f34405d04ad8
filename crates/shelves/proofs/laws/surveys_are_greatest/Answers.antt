use Rattle.shelves.proofs.Surveying.{surveys_greatest}
use Rattle.shelves.proofs.laws.surveys_are_greatest.Goals as goal

pub returns : goal.returns
returns c = surveys_greatest
