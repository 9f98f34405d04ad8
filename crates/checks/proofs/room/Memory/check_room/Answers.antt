use Rattle.std.proofs.Common.{arith}
use Rattle.checks.proofs.Faulting.{first_record, first_pool, room_right}
use Rattle.checks.proofs.room.Memory.check_room.Goals as goal

pub returns-then-taken-self : goal.returns-then-taken-self
returns-then-taken-self c = first_record c.args.self.records c.args.taken c.args.self.pool c.args.needed (omega arith)

pub returns-then-self-needed : goal.returns-then-self-needed
returns-then-self-needed c = first_pool c.args.self.records c.args.taken c.args.self.pool c.args.needed (omega arith) (omega arith)

pub returns : goal.returns
returns c = room_right c.args.self.records c.args.taken c.args.self.pool c.args.needed (omega arith) (omega arith)
