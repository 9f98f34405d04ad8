-- Join: the task in which two values a < b of a variable are one. b reads as a, and each value above b as one less.
use Rattle.std.specs.Prelude.{ℕ, ◌-◌, cond, ◌&&◌, ◌==◌, nat_lt}
use Rattle.std.specs.Option.{option_map}
use Rattle.model.specs.Tasks.{Task}

-- where a value goes; nothing is joined unless a < b
abbrev pub folded : ℕ → ℕ → ℕ → ℕ
folded a b x = cond (nat_lt a b) (cond (x == b) a (cond (nat_lt b x) (x - 1) x)) x

-- where the value x of the variable u goes, if a and b of the variable w are one
abbrev pub joins : ℕ → ℕ → ℕ → ℕ → ℕ → ℕ
joins w a b u x = cond (u == w) (folded a b x) x

-- the variable has one value less, if it has both
abbrev pub joined_size : ℕ → ℕ → ℕ → ℕ
joined_size a b k = cond (nat_lt a b && nat_lt b k) (k - 1) k

abbrev pub join : ℕ → ℕ → ℕ → Task → Task
join w a b t = record {
  n = t.n;
  m = t.m;
  size = λ u. cond (u == w) (joined_size a b (t.size u)) (t.size u);
  needed = λ o u. option_map (joins w a b u) (t.needed o u);
  made = λ o u. option_map (joins w a b u) (t.made o u);
  start = λ u. joins w a b u (t.start u);
  goal = λ u. option_map (joins w a b u) (t.goal u);
}
