use Rattle.std.proofs.Common.{◌<◌, ◌≤◌, length, get_or, refl, subst, arith}
use Rattle.std.proofs.lemmas.Bool.{false≢true}
use Rattle.std.proofs.lemmas.List.{take_all}
use Rattle.model.specs.Tasks.{Leads, position}
use Rattle.task.proofs.Planning.{not_followed, first_long, first_unknown, first_blocked, follow_more}
use Rattle.task.proofs.plan.follow.Goals as goal

pub returns-then-operators-gt-MAX_PLAN : goal.returns-then-operators-gt-MAX_PLAN
returns-then-operators-gt-MAX_PLAN g c =
    let t = g.S.TaskSource.task c.args.source.now in
    let f = first_long t c.args.operators.now c.if-operators-gt-MAX_PLAN.true in
    record { reaches = f; exact = not_followed t c.args.operators.now _ f.0 }

pub returns-in-Some : goal.returns-in-Some
returns-in-Some g c =
    let t = g.S.TaskSource.task c.args.source.now in
    let os = c.args.operators.now in
    let h = c.in-Some.ensures in
    let f = first_unknown t os c.in-Some.i c.if-operators-gt-MAX_PLAN.false h.0.0 h.0.1 h.1 in
    record { reaches = f; exact = not_followed t os _ f.0 }

pub returns-then-not-applies : goal.returns-then-not-applies
returns-then-not-applies g c =
    let t = g.S.TaskSource.task c.args.source.now in
    let os = c.args.operators.now in
    let f = first_blocked t os c.if-operators-gt-MAX_PLAN.false c.in_default.ensures c.loop-i.i (position c.loop-i.values) c.loop-i-test.true c.loop-i.invariant (λ a. false≢true (c.if-not-applies.ensures.1 a)) in
    record { reaches = f; exact = not_followed t os _ f.0 }

pub loop-i-preserved : goal.loop-i-preserved
loop-i-preserved g c =
    let s = c.args.source.now in
    let t = g.S.TaskSource.task s in
    let law = g.met.S.TaskSource.lawful s in
    let os = c.args.operators.now in
    let i = c.loop-i.i in
    let known : get_or os i 0 < t.m = grind (arith, c.in_default.ensures i) in
    let long : t.n ≤ length c.loop-i.values = omega (arith, law.variables.1, c.if-not-applies.array_long) in
    rw c.advance.ensures (follow_more t law os c.loop-i.values i c.loop-i-test.true known long c.loop-i.invariant (c.if-not-applies.ensures.0 refl))

pub returns : goal.returns
returns g c =
    let t = g.S.TaskSource.task c.args.source.now in
    let os = c.args.operators.now in
    let all = subst (λ xs. Leads t xs t.start (position c.loop-i.values)) (take_all c.loop-i.i os c.loop-i-test.false) c.loop-i.invariant in
    record { reaches = all; exact = (λ e. (c.if-operators-gt-MAX_PLAN.false, (position c.loop-i.values, all)), λ h. refl) }
