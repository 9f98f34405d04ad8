-- A pile of layers over a task, the lowest first. Each answer is passed up through the layers.
use Rattle.std.specs.Prelude.{ℕ, cond, List, [], ◌∷◌, None, Option, ◌==◌}
use Rattle.std.specs.Option.{option_map}
use Rattle.model.specs.Tasks.{Task}
use Rattle.model.specs.LeaveOut.{has, leave_out, kept}
use Rattle.model.specs.Join.{joins, joined_size, join}

-- a layer keeps the variables of a mask, or joins two values of a variable
pub data Layering : Type 0 where
  keeping : (mask : ℕ) → Layering
  joining : (variable low high : ℕ) → Layering

abbrev pub layered : Layering → Task → Task
layered (keeping mask) t = leave_out mask t
layered (joining w a b) t = join w a b t

-- ---- what a layer makes of the size of v, of a value of v, and of a value that may be none

abbrev pub layer_size : Layering → ℕ → ℕ → ℕ
layer_size (keeping mask) v k = cond (has mask v) k 1
layer_size (joining w a b) v k = cond (v == w) (joined_size a b k) k

abbrev pub layer_image : Layering → ℕ → ℕ → ℕ
layer_image (keeping mask) v x = kept mask v x
layer_image (joining w a b) v x = joins w a b v x

abbrev pub layer_wanted : Layering → ℕ → Option ℕ → Option ℕ
layer_wanted (keeping mask) v x = cond (has mask v) x None
layer_wanted (joining w a b) v x = option_map (joins w a b v) x

-- ---- and what the pile makes of them

abbrev pub stack_size : List Layering → ℕ → ℕ → ℕ
stack_size [] v k = k
stack_size (l ∷ ls) v k = stack_size ls v (layer_size l v k)

abbrev pub stack_image : List Layering → ℕ → ℕ → ℕ
stack_image [] v x = x
stack_image (l ∷ ls) v x = stack_image ls v (layer_image l v x)

abbrev pub stack_wanted : List Layering → ℕ → Option ℕ → Option ℕ
stack_wanted [] v x = x
stack_wanted (l ∷ ls) v x = stack_wanted ls v (layer_wanted l v x)

-- the pile's task: that of the first layer over t, with the others over it
abbrev pub stacked : List Layering → Task → Task
stacked ls t = record {
  n = t.n;
  m = t.m;
  size = λ v. stack_size ls v (t.size v);
  needed = λ o v. stack_wanted ls v (t.needed o v);
  made = λ o v. stack_wanted ls v (t.made o v);
  start = λ v. stack_image ls v (t.start v);
  goal = λ v. stack_wanted ls v (t.goal v);
}
