-- A value that may be none.
use Rattle.std.proofs.Common.{◌≡◌, ℕ, ◌⊎◌, Some, None, Option, inl, arith}
use Rattle.std.proofs.lemmas.Bool.{cases_eq}
use Rattle.model.specs.Tasks.{Holds}

pub holds_none : (w : Option ℕ) (x : ℕ) → w ≡ None → Holds w x
holds_none w x e = grind arith

pub holds_or_not : (w : Option ℕ) (x : ℕ) → Holds w x ⊎ (Holds w x → ⊥)
holds_or_not None x = inl tt
holds_or_not (Some y) x = cases_eq x y
