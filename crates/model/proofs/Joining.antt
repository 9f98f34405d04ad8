-- A task in which two values are one keeps the limits, and is a reduction.
use Rattle.std.proofs.Common.{◌≡◌, ℕ, ◌≤◌, refl, arith, rules}
use mathlib.Core.Path.{fun_ext}
use Rattle.std.proofs.lemmas.Bool.Decides.{nat_tests}
use Rattle.model.specs.Tasks.{Task, Lawful, Applies}
use Rattle.model.specs.Reductions.{Reduces}
use Rattle.model.specs.Join.{joins, join}
use Rattle.model.proofs.Answering.{same_task}

module _ (w a b : ℕ) (t : Task) where
  pub join_lawful : Lawful t → Lawful (join w a b t)
  join_lawful law = search (rules, nat_tests)

  pub join_reduces : Reduces t (join w a b t) (joins w a b)
  unfolding Applies
  join_reduces = record {
    variables = refl;
    operators = refl;
    legal = λ p h u. grind (arith, nat_tests, h u);
    start = refl;
    goal = λ p k h u. grind (arith, h u);
    step = λ o p k l h. (λ u. grind (arith, h u), fun_ext (λ u. grind arith));
  }

-- where not a < b, nothing is joined
pub join_nothing : (w a b : ℕ) (t : Task) → b ≤ a → join w a b t ≡ t
join_nothing w a b t h = same_task (join w a b t) t (grind (arith, nat_tests))
