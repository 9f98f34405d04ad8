use Rattle.numbers.proofs.Listing.{listed}
use Rattle.numbers.proofs.number.frame_count.Goals as goal

pub returns-clause-order : goal.returns-clause-order
returns-clause-order c = listed c.args.candidates c.args.k
