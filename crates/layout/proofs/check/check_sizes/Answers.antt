use Rattle.std.proofs.Common.{rules, ◌-◌, refl}
use Rattle.std.proofs.iter.runs.Sources.{ranges}
use Rattle.layout.proofs.check.check_sizes.Goals as goal

pub returns-in-Some : goal.returns-in-Some
returns-in-Some c = (_, refl, ((c.in-Some.i - 4, search (rules, ranges), search (rules, ranges), search (rules, ranges)), λ i l w. search (rules, ranges)))
