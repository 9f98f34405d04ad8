use Rattle.std.proofs.Common.{refl, ⊎_elim}
use Rattle.std.proofs.lemmas.Result.{err_from_is_err_and}
use Rattle.model.specs.Tasks.{position}
use Rattle.model.proofs.Options.{holds_or_not}
use Rattle.task.proofs.Planning.{not_accepted, first_follow, first_missed}
use Rattle.task.proofs.plan.check_plan.Goals as goal

pub returns-in_err-values : goal.returns-in_err-values
returns-in_err-values g c =
    let t = g.S.TaskSource.task c.args.source.now in
    let os = c.args.operators.now in
    let p = err_from_is_err_and c.from_residual.result c.from_residual.ensures.1 in
    let f = first_follow t os c.in_err-values.field-0.0 c.in_err-values.ensures.reaches in
    rw (p.1, p.2) (record { judges = f; exact = not_accepted t os _ f.0 })

pub returns-in-Some : goal.returns-in-Some
returns-in-Some g c =
    let t = g.S.TaskSource.task c.args.source.now in
    let os = c.args.operators.now in
    let led = c.in_ok-values.ensures in
    let h = c.in-Some.ensures in
    let f = first_missed t os c.in-Some.v (position c.in_ok-values.values) (led.exact.0 refl).0 led.reaches h.0 h.1 in
    record { judges = f; exact = not_accepted t os _ f.0 }

pub returns-in-None : goal.returns-in-None
returns-in-None g c =
    let t = g.S.TaskSource.task c.args.source.now in
    let q = position c.in_ok-values.values in
    let led = c.in_ok-values.ensures in
    record {
      judges = refl;
      exact = (λ e. ((led.exact.0 refl).0, (q, led.reaches, λ v. ⊎_elim (λ h. h) (λ n. absurd (c.in-None.ensures v n)) (holds_or_not (t.goal v) (q v)))), λ h. refl);
    }
