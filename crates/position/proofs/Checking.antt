-- When nothing is wrong with a position.
use Rattle.std.proofs.Common.{◌≡◌, ℕ, List, length, sym, ◌∙◌, arith}
use Rattle.std.proofs.lemmas.List.{get_or_past}
use Rattle.model.specs.Tasks.{Task, Lawful, Legal, position}
use Rattle.position.specs.declared.fault.PositionFault.{PositionFault}
use Rattle.position.specs.declared.fault.PositionFault.TheVariants.{WrongCount, NoSuchValue}
use Rattle.position.specs.Wrong.{Stray, PositionWrong}

module _ (t : Task) (law : Lawful t) where
  -- one value for each variable, and none of them stray
  pub position_right : (xs : List ℕ) → length xs ≡ t.n → ((i : ℕ) → Stray t xs i → ⊥) → ((d : PositionFault) → PositionWrong t xs d → ⊥) × (length xs ≡ t.n) × Legal t (position xs)
  position_right xs e none = (go, e, legal)
    where
      go : (d : PositionFault) → PositionWrong t xs d → ⊥
      go (WrongCount n) w = w.1 (e ∙ sym w.0)
      go (NoSuchValue i) w = none i w

      legal : Legal t (position xs)
      legal v = grind (arith, none v, get_or_past xs v 0, law.sizes v)
