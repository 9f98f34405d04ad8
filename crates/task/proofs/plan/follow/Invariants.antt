use Rattle.std.proofs.Common.{take}
use Rattle.model.specs.Tasks.{Leads, position}
use Rattle.task.proofs.plan.follow.Given as goal

abbrev pub invariant-loop-i : goal.invariant-loop-i
invariant-loop-i g l =
    let t = g.S.TaskSource.task l.source in
    Leads t (take l.i l.operators) t.start (position l.values)
