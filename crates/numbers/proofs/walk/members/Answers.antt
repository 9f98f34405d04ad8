use Rattle.std.proofs.Common.{sym}
use Rattle.numbers.proofs.Listing.{count_all}
use Rattle.numbers.proofs.walk.members.Goals as goal

pub returns : goal.returns
returns c = sym (count_all c.args.mask c.ranges.mask.fits)
