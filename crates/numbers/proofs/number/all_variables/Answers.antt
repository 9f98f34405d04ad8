use Rattle.numbers.proofs.Listing.{lowest}
use Rattle.numbers.proofs.number.all_variables.Goals as goal

pub returns : goal.returns
returns c = lowest c.args.n c.lowest.result c.lowest.ensures
