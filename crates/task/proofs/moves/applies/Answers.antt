use Rattle.std.proofs.Common.{rules}
use Rattle.std.proofs.iter.runs.Sources.{ranges}
use Rattle.model.specs.Tasks.{Applies}
use Rattle.task.proofs.moves.applies.Goals as goal

pub returns : goal.returns
unfolding Applies
returns g c = search (rules, ranges)
