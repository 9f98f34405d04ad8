-- The ring of n: n variables of two values and n operators, of which operator i passes the value 1 on from variable i to the next one
-- around. All variables start at 0, and the goal is 1 at variable 0, so a ring has no plan.
use Rattle.std.specs.Prelude.{ℕ, ◌+◌, ◌%◌, cond, ◌&&◌, Some, None, ◌==◌, nat_lt}
use Rattle.model.specs.Tasks.{Task}

abbrev pub ring : ℕ → Task
ring n = record {
  n = n;
  m = n;
  size = λ v. cond (nat_lt v n) 2 1;
  needed = λ o v. cond (nat_lt o n && v == o) (Some 1) None;
  made = λ o v. cond (nat_lt o n && v == (o + 1) % n) (Some 1) None;
  start = λ v. 0;
  goal = λ v. cond (v == 0) (Some 1) None;
}
