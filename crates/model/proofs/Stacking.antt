-- A pile of layers is the layers one over the other. It keeps the limits, and is a reduction.
use Rattle.std.proofs.Common.{◌≡◌, List, [], ◌∷◌, ◌++◌, sym, refl}
use Rattle.model.specs.Tasks.{Task, Lawful}
use Rattle.model.specs.Reductions.{Reduces}
use Rattle.model.specs.Stack.{Layering, keeping, joining, layered, layer_image, stack_image, stacked}
use Rattle.model.proofs.Reducing.{reduces_self, compose}
use Rattle.model.proofs.LeavingOut.{leave_out_lawful, leave_out_reduces}
use Rattle.model.proofs.Joining.{join_lawful, join_reduces}

layered_lawful : (l : Layering) (t : Task) → Lawful t → Lawful (layered l t)
layered_lawful (keeping mask) t law = leave_out_lawful mask t law
layered_lawful (joining w a b) t law = join_lawful w a b t law

layered_reduces : (l : Layering) (t : Task) → Reduces t (layered l t) (layer_image l)
layered_reduces (keeping mask) t = leave_out_reduces mask t
layered_reduces (joining w a b) t = join_reduces w a b t

-- the first layer is the lowest
stacked_first : (l : Layering) (ls : List Layering) (t : Task) → stacked ls (layered l t) ≡ stacked (l ∷ ls) t
stacked_first (keeping mask) ls t = refl
stacked_first (joining w a b) ls t = refl

pub stacked_lawful : (ls : List Layering) (t : Task) → Lawful t → Lawful (stacked ls t)
stacked_lawful [] t law = law
stacked_lawful (l ∷ ls) t law = rw stacked_first at (stacked_lawful ls (layered l t) (layered_lawful l t law))

pub stacked_reduces : (ls : List Layering) (t : Task) → Reduces t (stacked ls t) (stack_image ls)
stacked_reduces [] t = reduces_self t
stacked_reduces (l ∷ ls) t =
    compose t (layered l t) (stacked (l ∷ ls) t) (layer_image l) (stack_image ls) (layered_reduces l t)
    (rw (stacked_first l ls t) at (stacked_reduces ls (layered l t)))

-- one layer more, on top
pub stacked_more : (ls : List Layering) (l : Layering) (t : Task) → stacked (ls ++ (l ∷ [])) t ≡ layered l (stacked ls t)
stacked_more [] l t = sym (stacked_first l [] t)
stacked_more (j ∷ ls) l t = cc (stacked_first j (ls ++ (l ∷ [])) t, stacked_more ls l (layered j t), stacked_first j ls t)
