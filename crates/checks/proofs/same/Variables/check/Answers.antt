use Rattle.std.proofs.Common.{sym, ◌∙◌, arith}
use Rattle.frame.specs.Held.{size_in}
use Rattle.checks.proofs.Faulting.{first_count, first_size, task_right}
use Rattle.checks.proofs.same.Variables.check.Goals as goal

pub returns-then-variables-self : goal.returns-then-variables-self
returns-then-variables-self g c = first_count (g.S.TaskSource.task c.args.source.now) c.args.self.now.n (size_in c.args.self.now.sizes) (λ e. c.if-variables-self.true (c.variables.ensures ∙ sym e))

pub returns-in-Some : goal.returns-in-Some
returns-in-Some g c = first_size (g.S.TaskSource.task c.args.source.now) c.args.self.now.n (size_in c.args.self.now.sizes) (omega (arith, c.variables.ensures, c.if-variables-self.false)) c.in-Some.v c.in-Some.ensures

pub returns-in-None : goal.returns-in-None
returns-in-None g c = task_right (g.S.TaskSource.task c.args.source.now) c.args.self.now.n (size_in c.args.self.now.sizes) (omega (arith, c.variables.ensures, c.if-variables-self.false)) c.in-None.ensures
