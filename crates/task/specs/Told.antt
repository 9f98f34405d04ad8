-- The text of a refusal.
use Rattle.std.specs.Prelude.{ℕ, List, ◌++◌, codes, decimal}
use Rattle.task.specs.declared.refusal.Refusal.{Refusal}
use Rattle.task.specs.declared.refusal.Layer.{Layer}
use Rattle.task.specs.declared.refusal.Layer.TheVariants.{Card, Reduction, Frame, Register}

abbrev pub layer_name : Layer → List ℕ
layer_name Card = codes "card"
layer_name Reduction = codes "reduction"
layer_name Frame = codes "frame"
layer_name Register = codes "register"

-- as `5 card at (6, 0)`
abbrev pub refusal_text : Refusal → List ℕ
refusal_text r = decimal r.number ++ (codes " " ++ (layer_name r.layer ++ (codes " at (" ++ (decimal r.place.0 ++ (codes ", " ++ (decimal r.place.1 ++ codes ")"))))))
