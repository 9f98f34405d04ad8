use Rattle.model.proofs.Answering.{alike_when_same}
use Rattle.task.proofs.source.answers_tell_the_task.Goals as goal

pub returns : goal.returns
returns g c =
    let a = c.args.a.now in
    let b = c.args.b.now in
    alike_when_same (g.A.TaskSource.task a) (g.B.TaskSource.task b) (g.met.A.TaskSource.lawful a) (g.met.B.TaskSource.lawful b)
