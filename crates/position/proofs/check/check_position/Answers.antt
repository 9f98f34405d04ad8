use Rattle.std.proofs.Common.{arith}
use Rattle.position.proofs.Checking.{position_right}
use Rattle.position.proofs.check.check_position.Goals as goal

pub returns-in-None : goal.returns-in-None
returns-in-None g c =
    let s = c.args.source.now in
    position_right (g.S.TaskSource.task s) (g.met.S.TaskSource.lawful s) c.args.values.now (omega arith) c.in-None.ensures
