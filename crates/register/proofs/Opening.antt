-- What an opening tests and leaves.
use Rattle.std.proofs.Common.{◌≡◌, ℕ, replicate, ◌∙◌, ⊎_elim}
use Rattle.std.proofs.lemmas.List.{get_or-replicate}
use Rattle.std.proofs.lemmas.Bool.{cases_lt}
use Rattle.frame.specs.Held.{size_in}
use Rattle.frame.proofs.Measuring.{size_in_below, size_in_past}

-- before an opening each size is 1
pub ones_sized : (v : ℕ) → size_in (replicate 32 1) v ≡ 1
ones_sized v = ⊎_elim (λ l. size_in_below (replicate 32 1) v l ∙ get_or-replicate 32 v 1 0 l) (size_in_past (replicate 32 1) v) (cases_lt v 32)
