-- Sets of variables, the projection of a task onto one, the code of a position in one, and the order in which sets are numbered.
use Rattle.std.specs.Prelude.{◌≡◌, ℕ, zero, suc, ◌+◌, ◌*◌, ◌/◌, ◌%◌, ◌^◌, ◌<◌, ◌≤◌, Bool, cond, not, ◌&&◌, ◌⊎◌, ◌↔◌, List, [], ◌∷◌, ◌++◌, map, ◌==◌, bit_and, count_ones}
use Rattle.std.specs.List.{AllByRecursion}
use Rattle.model.specs.Tasks.{Task, Position, Legal}
use Rattle.model.specs.Orders.{Earlier}
use Rattle.model.specs.LeaveOut.{has, leave_out}

abbrev pub inside : ℕ → ℕ → Bool
inside g f = bit_and g f == g

abbrev pub strictly_inside : ℕ → ℕ → Bool
strictly_inside g f = inside g f && not (g == f)

-- the projection onto a set of variables is the leave-out that keeps them
abbrev pub onto : ℕ → Task → Task
onto f t = leave_out f t

-- ---- codes

-- the product of the sizes of f's variables below v
abbrev pub width_by : (ℕ → ℕ) → ℕ → ℕ → ℕ
width_by size f zero = 1
width_by size f (suc v) = width_by size f v * cond (has f v) (size v) 1

-- each value of f's variables below v, times the product of the sizes of f's lower variables, summed
abbrev pub code_by : (ℕ → ℕ) → ℕ → Position → ℕ → ℕ
code_by size f p zero = 0
code_by size f p (suc v) = code_by size f p v + cond (has f v) (p v * width_by size f v) 0

-- the values that a code stands for
abbrev pub values_by : (ℕ → ℕ) → ℕ → ℕ → Position
values_by size f c = λ v. cond (has f v) (c / width_by size f v % size v) 0

-- the same, by the sizes of a task
abbrev pub width : Task → ℕ → ℕ → ℕ
width t f v = width_by t.size f v

abbrev pub code_below : Task → ℕ → Position → ℕ → ℕ
code_below t f p v = code_by t.size f p v

abbrev pub code : Task → ℕ → Position → ℕ
code t f p = code_below t f p t.n

abbrev pub frame_size : Task → ℕ → ℕ
frame_size t f = width t f t.n

abbrev pub values : Task → ℕ → ℕ → Position
values t f c = values_by t.size f c

-- the codes below the product of all sizes are the positions of the projection, one for one
abbrev pub OneForOne : Task → ℕ → Type 0
OneForOne t f =
    ((c : ℕ) → c < frame_size t f → Legal (onto f t) (values t f c) × (code t f (values t f c) ≡ c))
    × ((p : Position) → Legal (onto f t) p → (code t f p < frame_size t f) × (values t f (code t f p) ≡ p))

-- A frame is a non-empty set of the task's variables whose sizes have a product of at most 16,384.
abbrev pub IsFrame : Task → ℕ → Type 0
IsFrame t f = (0 < f) × (f < 2 ^ t.n) × (frame_size t f ≤ 16384)

-- ---- the order of sets of one size

-- the sets of k of n variables, in the order of their ascending lists
abbrev pub choose : ℕ → ℕ → List ℕ
choose n zero = 0 ∷ []
choose zero (suc k) = []
choose (suc n) (suc k) = map (λ f. 2 * f + 1) (choose n k) ++ map (λ f. 2 * f) (choose n (suc k))

-- f's variables among the lowest n, ascending
abbrev pub members : ℕ → ℕ → List ℕ
members zero f = []
members (suc n) f = cond (f % 2 == 1) (0 ∷ map suc (members n (f / 2))) (map suc (members n (f / 2)))

-- each set's ascending list is earlier than those after it
abbrev pub InOrder : ℕ → List ℕ → Type 0
InOrder n [] = Unit {0}
InOrder n (f ∷ fs) = AllByRecursion (λ g. Earlier (members n f) (members n g)) fs × InOrder n fs

abbrev pub In : ℕ → List ℕ → Type 0
In x [] = ⊥
In x (y ∷ ys) = (x ≡ y) ⊎ In x ys

-- `choose n k` has each set of k of n variables and no other, in the order of their ascending lists
pub record Chosen (n k : ℕ) : Type 0 where
  pub each : (f : ℕ) → In f (choose n k) ↔ ((f < 2 ^ n) × (count_ones f ≡ k))
  pub order : InOrder n (choose n k)
