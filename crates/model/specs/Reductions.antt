-- How one task reduces to another: a coarser task in which every plan of the finer one can be followed.
use Rattle.std.specs.Prelude.{◌≡◌, ℕ, ◌<◌, cond, ◌&&◌, List, Some, None, Option, nat_lt}
use Rattle.model.specs.Tasks.{Task, Position, Legal, Applies, after, IsGoal, Hopeless, Plan}

-- each value of each variable has an image; the image of a position has the images of its values
abbrev pub image_of : (ℕ → ℕ → ℕ) → Position → Position
image_of image p = λ v. image v (p v)

-- The upper task has as many variables and operators. The start goes to the start, goal positions go to goal positions, and where an
-- operator leads from p to q below, the same operator leads from p's image to q's.
pub record Reduces (lower upper : Task) (image : ℕ → ℕ → ℕ) : Type 0 where
  pub variables : upper.n ≡ lower.n
  pub operators : upper.m ≡ lower.m
  pub legal : (p : Position) → Legal lower p → Legal upper (image_of image p)
  pub start : image_of image lower.start ≡ upper.start
  pub goal : (p : Position) → Legal lower p → IsGoal lower p → IsGoal upper (image_of image p)
  pub step : (o : ℕ) (p : Position) → Legal lower p → o < lower.m → Applies lower o p → Applies upper o (image_of image p) × (after upper o (image_of image p) ≡ image_of image (after lower o p))

-- the image of the value x of the variable v, and none where the task has no such value
abbrev pub image_in : Task → (ℕ → ℕ → ℕ) → ℕ → ℕ → Option ℕ
image_in t image v x = cond (nat_lt v t.n && nat_lt x (t.size v)) (Some (image v x)) None

-- each plan of the lower task is one of the upper
abbrev pub PlansGoUp : Task → Task → Type 0
PlansGoUp lower upper = (os : List ℕ) → Plan lower os → Plan upper os

-- a position is hopeless whose image is
abbrev pub HopelessGoesDown : Task → Task → (ℕ → ℕ → ℕ) → Type 0
HopelessGoesDown lower upper image = (p : Position) → Legal lower p → Hopeless upper (image_of image p) → Hopeless lower p

-- reductions compose, whatever the tasks and images
abbrev pub ReductionsCompose : Type 0
ReductionsCompose = (a b c : Task) (f g : ℕ → ℕ → ℕ) → Reduces a b f → Reduces b c g → Reduces a c (λ v x. g v (f v x))
