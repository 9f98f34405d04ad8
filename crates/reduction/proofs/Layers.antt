-- A list of layers with one more on top.
use Rattle.std.proofs.Common.{◌≡◌, List, [], ◌∷◌, ◌++◌, map, ap, ◌∙◌}
use mathlib.Core.List.{map-append}
use Rattle.model.specs.Tasks.{Task}
use Rattle.model.specs.Stack.{Layering, layered, stacked}
use Rattle.model.proofs.Stacking.{stacked_more}

-- it is a layer over the pile's task
pub put_on_top : {L : Type 0} (layering : L → Layering) (ls : List L) (l : L) (t : Task) → stacked (map layering (ls ++ (l ∷ []))) t ≡ layered (layering l) (stacked (map layering ls) t)
put_on_top layering ls l t = ap (λ ks. stacked ks t) (map-append layering ls (l ∷ [])) ∙ stacked_more (map layering ls) (layering l) t
