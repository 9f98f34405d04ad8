-- A task with only some of its variables keeps the limits, and is a reduction.
use Rattle.std.proofs.Common.{◌≡◌, ℕ, ◌<◌, true, eq-eqb, arith, rules}
use mathlib.Core.Path.{fun_ext}
use Rattle.std.proofs.lemmas.Nat.Bits.{bit_at_ones}
use Rattle.model.specs.Tasks.{Task, Lawful, Applies}
use Rattle.model.specs.Reductions.{Reduces}
use Rattle.model.specs.LeaveOut.{has, leave_out, kept}
use Rattle.model.proofs.Positions.{start_outside}
use Rattle.model.proofs.Answering.{same_task}

module _ (mask : ℕ) (t : Task) where
  pub leave_out_lawful : Lawful t → Lawful (leave_out mask t)
  leave_out_lawful law = search rules

  pub leave_out_reduces : Reduces t (leave_out mask t) (kept mask)
  unfolding Applies
  leave_out_reduces = search (rules, fun_ext)

-- a mask that has each of the task's variables leaves nothing out
pub leave_out_all : (mask : ℕ) (t : Task) → Lawful t → ((v : ℕ) → v < t.n → has mask v ≡ true) → leave_out mask t ≡ t
leave_out_all mask t law all =
    same_task (leave_out mask t) t (grind (arith, all, law.outside, law.no_needs, law.no_makes, start_outside t law, law.no_goals))

pub leave_out_nothing : (t : Task) → Lawful t → leave_out 4294967295 t ≡ t
leave_out_nothing t law = leave_out_all 4294967295 t law (λ v l. eq-eqb _ _ (bit_at_ones 32 v (omega (arith, law.variables.1))))
