use Rattle.std.proofs.Common.{arith}
use Rattle.std.proofs.lemmas.List.FromFn.{fill_by_all}
use Rattle.task.proofs.moves.advance.Goals as goal

pub returns : goal.returns
returns g c = fill_by_all _ _ _ 0 (omega arith) (λ u h. c.loop-v.invariant.0 u (omega arith))
