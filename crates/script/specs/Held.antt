-- What a session holds.
use Rattle.std.specs.Prelude.{ℕ, List, Some, None, vec_items, Option}
use Rattle.model.specs.Tasks.{Task}
use Rattle.model.specs.Card as cards
use Rattle.model.specs.Ring as rings
use Rattle.stack.specs.declared.layer.Layer.{Layer}
use Rattle.script.specs.declared.pile.Pile.{Pile}
use Rattle.script.specs.declared.pile.Pile.TheVariants as over

-- the card of some words, or the ring of so many places
pub data Foot : Type 0 where
  words : List ℕ → Foot
  places : ℕ → Foot

abbrev pub foot_task : Foot → Task
foot_task (words ws) = cards.card ws
foot_task (places n) = rings.ring n

-- no task yet, or a pile of layers over a foot
pub data Held : Type 0 where
  nothing : Held
  pile : Foot → List Layer → Held

abbrev pub held : Option Pile → Held
held None = nothing
held (Some (over.Card s)) = pile (words (vec_items s.source.source.words)) (vec_items s.layer)
held (Some (over.Ring s)) = pile (places s.source.source.n) (vec_items s.layer)
