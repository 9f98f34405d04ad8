-- Leave-out: the task with only a set of its variables. Every other one gets size 1, value 0, and no needed, made or goal value.
use Rattle.std.specs.Prelude.{ℕ, ◌/◌, ◌%◌, ◌^◌, Bool, cond, None, ◌==◌}
use Rattle.model.specs.Tasks.{Task}

-- A set of variables is a mask: bit v stands for the variable v.
abbrev pub has : ℕ → ℕ → Bool
has mask v = mask / 2 ^ v % 2 == 1

abbrev pub leave_out : ℕ → Task → Task
leave_out mask t = record {
  n = t.n;
  m = t.m;
  size = λ v. cond (has mask v) (t.size v) 1;
  needed = λ o v. cond (has mask v) (t.needed o v) None;
  made = λ o v. cond (has mask v) (t.made o v) None;
  start = λ v. cond (has mask v) (t.start v) 0;
  goal = λ v. cond (has mask v) (t.goal v) None;
}

-- where a value goes
abbrev pub kept : ℕ → ℕ → ℕ → ℕ
kept mask v x = cond (has mask v) x 0
