-- The sizes and strides of a frame, variable by variable.
use Rattle.std.proofs.Common.{◌≡◌, ℕ, ◌<◌, ◌≤◌, List, get_or, replicate, arith}
use mathlib.Core.Path.{fun_ext}
use Rattle.std.proofs.lemmas.List.{get_or-replicate}
use Rattle.std.proofs.lemmas.Bool.Decides.{nat_tests}
use Rattle.model.specs.Tasks.{Task, Lawful}
use Rattle.frame.specs.Held.{size_in, Sized}

pub size_in_below : (sizes : List ℕ) (v : ℕ) → v < 32 → size_in sizes v ≡ get_or sizes v 0
size_in_below sizes v h = grind (arith, nat_tests)

pub size_in_past : (sizes : List ℕ) (v : ℕ) → 32 ≤ v → size_in sizes v ≡ 1
size_in_past sizes v h = grind (arith, nat_tests)

-- a list that has each size of a lawful task gives the task's sizes
pub sizes_all : (t : Task) → Lawful t → (sizes : List ℕ) → ((v : ℕ) → v < 32 → size_in sizes v ≡ t.size v) → size_in sizes ≡ t.size
sizes_all t law sizes h = fun_ext (λ v. grind (arith, nat_tests, h v, law.outside v, law.variables))

-- a list of 32 ones
pub ones : (v : ℕ) → v < 32 → get_or {A = ℕ} (replicate 32 1) v 0 ≡ 1
ones v h = get_or-replicate 32 v 1 0 h

-- the sizes in memory are at least 1
pub size_some : (sizes : List ℕ) → Sized sizes → (v : ℕ) → 1 ≤ size_in sizes v
size_some sizes h v = grind (arith, nat_tests, h v)
