use Rattle.std.proofs.Common.{rules, refl}
use Rattle.std.proofs.iter.runs.Sources.{ranges}
use Rattle.layout.proofs.check.check_heads.Goals as goal

pub returns-in-Some : goal.returns-in-Some
returns-in-Some c = (_, refl, (search (rules, ranges), λ i l w. search (rules, ranges)))
