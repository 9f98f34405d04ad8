use Rattle.std.proofs.Common.{refl, arith}
use Rattle.std.proofs.lemmas.Bool.{false≢true}
use Rattle.checks.proofs.Sealing.{sealed_skipped, sealed_passed, nothing_wrong, goal_is_first, out_is_first}
use Rattle.checks.proofs.closed.Claim.check.Goals as goal

pub codes-preserved-then-not-is_open : goal.codes-preserved-then-not-is_open
codes-preserved-then-not-is_open g c = (
  c.codes.invariant.0,
  λ fits. sealed_skipped (g.S.TaskSource.task c.args.source.now) (g.met.S.TaskSource.lawful c.args.source.now) c.args.self.now fits c.codes.c (c.codes.invariant.1 fits) c.if-not-is_open.ensures,
)

pub codes-preserved : goal.codes-preserved
codes-preserved g c = (
  c.loop-o.invariant.0,
  λ fits. sealed_passed (g.S.TaskSource.task c.args.source.now) (g.met.S.TaskSource.lawful c.args.source.now) c.args.self.now fits c.codes.c (c.codes.invariant.1 fits)
      (λ h. false≢true (c.if-meets_goal.ensures.1 h))
      (λ u l. c.loop-o.invariant.1 fits u (omega (arith, c.operators-m.ensures))),
)

pub returns-after-codes : goal.returns-after-codes
returns-after-codes g c fits =
    rw c.codes.invariant.0
    (nothing_wrong (g.S.TaskSource.task c.args.source.now) (g.met.S.TaskSource.lawful c.args.source.now) c.args.self.now fits (λ k h. c.codes.invariant.1 fits k (omega (arith, c.size-size.ensures))))

pub returns-then-meets_goal : goal.returns-then-meets_goal
returns-then-meets_goal g c fits =
    goal_is_first (g.S.TaskSource.task c.args.source.now) (g.met.S.TaskSource.lawful c.args.source.now) c.args.self.now fits c.codes.c (omega (arith, c.size-size.ensures)) (c.codes.invariant.1 fits) c.if-not-is_open.ensures (c.if-meets_goal.ensures.0 refl)

pub returns-then-leads_out : goal.returns-then-leads_out
returns-then-leads_out g c fits =
    out_is_first (g.S.TaskSource.task c.args.source.now) (g.met.S.TaskSource.lawful c.args.source.now) c.args.self.now fits c.codes.c c.loop-o.o (omega (arith, c.size-size.ensures)) (omega (arith, c.operators-m.ensures)) (c.codes.invariant.1 fits) c.if-not-is_open.ensures
    (λ h. false≢true (c.if-meets_goal.ensures.1 h)) ((c.if-leads_out.ensures fits).0 refl) (c.loop-o.invariant.1 fits)
