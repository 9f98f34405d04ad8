-- Tasks that agree are equal, and so are two lawful ones that answer every question alike.
use Rattle.std.proofs.Common.{◌≡◌, ℕ, ◌↔◌, subst, arith, rules}
use Rattle.std.proofs.lemmas.Bool.Decides.{nat_tests}
use Rattle.model.specs.Tasks.{Task, Lawful, Alike}
use Rattle.model.proofs.Positions.{start_outside}

pub same_task : (t u : Task)
    → (t.n ≡ u.n)
    × (t.m ≡ u.m)
    × ((v : ℕ) → t.size v ≡ u.size v)
    × ((o v : ℕ) → t.needed o v ≡ u.needed o v)
    × ((o v : ℕ) → t.made o v ≡ u.made o v)
    × ((v : ℕ) → t.start v ≡ u.start v)
    × ((v : ℕ) → t.goal v ≡ u.goal v)
    → t ≡ u
same_task t u (n, m, size, needed, made, start, goal) = λ i. record {
  n = n i;
  m = m i;
  size = λ v. size v i;
  needed = λ o v. needed o v i;
  made = λ o v. made o v i;
  start = λ v. start v i;
  goal = λ v. goal v i;
}

pub alike_same : (t u : Task) → Lawful t → Lawful u → Alike t u → t ≡ u
alike_same t u law-t law-u e = same_task t u (
  e.variables,
  e.operators,
  λ v. grind (arith, nat_tests, e.size v, e.variables, law-t.outside v, law-u.outside v),
  e.needed,
  e.made,
  λ v. grind (arith, nat_tests, e.start v, e.variables, start_outside t law-t v, start_outside u law-u v),
  e.goal,
)

pub alike_when_same : (t u : Task) → Lawful t → Lawful u → Alike t u ↔ (t ≡ u)
alike_when_same t u law-t law-u = (alike_same t u law-t law-u, λ e. subst (Alike t) e (search rules))
