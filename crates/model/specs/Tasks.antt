-- A planning task in finite-domain variables (SAS+), its limits, its positions, and what its operators do.
use Rattle.std.specs.Prelude.{◌≡◌, ℕ, ◌<◌, ◌≤◌, cond, ◌⊎◌, List, [], ◌∷◌, map, length, Some, None, Option, nat_lt, slice_index}
use Rattle.std.specs.List.{range_with_len}

-- n variables and m operators, both numbered from 0. A variable outside the task's n has size 1, so that its only value is 0.
pub record Task : Type 0 where
  pub n : ℕ
  pub m : ℕ
  pub size : ℕ → ℕ
  pub needed : ℕ → ℕ → Option ℕ
  pub made : ℕ → ℕ → Option ℕ
  pub start : ℕ → ℕ
  pub goal : ℕ → Option ℕ

-- one value for each variable
abbrev pub Position : Type 0
Position = ℕ → ℕ

-- a value, if there is one, is below the size
abbrev pub Within : Option ℕ → ℕ → Type 0
Within None k = Unit {0}
Within (Some x) k = x < k

abbrev pub Legal : Task → Position → Type 0
Legal t p = (v : ℕ) → p v < t.size v

-- The limits that every task keeps. Outside its variables and operators a task says nothing: size 1, start 0, and no value needed, made
-- or wanted. So two tasks that answer every question alike are equal.
pub record Lawful (t : Task) : Type 0 where
  pub variables : (1 ≤ t.n) × (t.n ≤ 32)
  pub operators : t.m ≤ 1024
  pub sizes : (v : ℕ) → (1 ≤ t.size v) × (t.size v ≤ 64)
  pub outside : (v : ℕ) → t.n ≤ v → t.size v ≡ 1
  pub starts : Legal t t.start
  pub needs : (o v : ℕ) → Within (t.needed o v) (t.size v)
  pub makes : (o v : ℕ) → Within (t.made o v) (t.size v)
  pub goals : (v : ℕ) → Within (t.goal v) (t.size v)
  pub no_needs : (o v : ℕ) → (t.m ≤ o) ⊎ (t.n ≤ v) → t.needed o v ≡ None
  pub no_makes : (o v : ℕ) → (t.m ≤ o) ⊎ (t.n ≤ v) → t.made o v ≡ None
  pub no_goals : (v : ℕ) → t.n ≤ v → t.goal v ≡ None

-- ---- the questions

-- the answer x to a question about the number i, and none where i is not below the count
abbrev pub below : ℕ → ℕ → ℕ → Option ℕ
below i count x = cond (nat_lt i count) (Some x) None

-- the two tasks answer each of the seven questions alike
pub record Alike (t u : Task) : Type 0 where
  pub variables : t.n ≡ u.n
  pub operators : t.m ≡ u.m
  pub size : (v : ℕ) → below v t.n (t.size v) ≡ below v u.n (u.size v)
  pub needed : (o v : ℕ) → t.needed o v ≡ u.needed o v
  pub made : (o v : ℕ) → t.made o v ≡ u.made o v
  pub start : (v : ℕ) → below v t.n (t.start v) ≡ below v u.n (u.start v)
  pub goal : (v : ℕ) → t.goal v ≡ u.goal v

-- ---- what operators do

-- a wanted value, if there is one, is present
abbrev pub Holds : Option ℕ → ℕ → Type 0
Holds None x = Unit {0}
Holds (Some w) x = x ≡ w

-- a made value, if there is one, replaces what was there
abbrev pub put : Option ℕ → ℕ → ℕ
put None x = x
put (Some w) x = w

-- each value that the operator o needs is present at p
unfoldable pub Applies : Task → ℕ → Position → Type 0
Applies t o p = (v : ℕ) → Holds (t.needed o v) (p v)

-- where the operator o leads from p: its made values are set, and the others stay
abbrev pub after : Task → ℕ → Position → Position
after t o p = λ v. put (t.made o v) (p v)

abbrev pub IsGoal : Task → Position → Type 0
IsGoal t p = (v : ℕ) → Holds (t.goal v) (p v)

-- the operators apply in turn, from p to q
abbrev pub Leads : Task → List ℕ → Position → Position → Type 0
Leads t [] p q = p ≡ q
Leads t (o ∷ os) p q = (o < t.m) × Applies t o p × Leads t os (after t o p) q

-- no operators lead from p to a goal position
abbrev pub Hopeless : Task → Position → Type 0
Hopeless t p = (os : List ℕ) (q : Position) → Leads t os p q → IsGoal t q → ⊥

-- the operators lead from the start to a goal position
abbrev pub Plan : Task → List ℕ → Type 0
Plan t os = (q : Position) × Leads t os t.start q × IsGoal t q

-- ---- positions in memory

-- the position that a list of values gives: its entries, and 0 past its end
abbrev pub position : List ℕ → Position
position xs = λ v. slice_index xs v

-- the list after the operator o: as many entries, each with what o makes of it
abbrev pub advanced : Task → ℕ → List ℕ → List ℕ
advanced t o xs = map (after t o (position xs)) (range_with_len 0 (length xs))
