-- What is wrong with a mask that is to be a frame of a task.
use Rattle.std.specs.Prelude.{◌≡◌, ℕ, suc, ◌<◌, ◌≤◌, true, List, Ok, Err, Result}
use Rattle.model.specs.Tasks.{Task}
use Rattle.model.specs.Orders.{First}
use Rattle.model.specs.LeaveOut.{has}
use Rattle.model.specs.Frames.{width_by, width, OneForOne, IsFrame}
use Rattle.frame.specs.declared.fault.FrameFault.{FrameFault}
use Rattle.frame.specs.declared.fault.FrameFault.TheVariants.{EmptyMask, NoSuchVariable, TooLarge}
use Rattle.frame.specs.Faults.{frame_turn}
use Rattle.frame.specs.Held.{size_in, Strided, OnesFrom, Small}

abbrev pub MaskWrong : Task → ℕ → FrameFault → Type 0
MaskWrong t mask EmptyMask = mask ≡ 0
MaskWrong t mask (NoSuchVariable v) = (t.n ≤ v) × (has mask v ≡ true)
MaskWrong t mask (TooLarge v) = (v < t.n) × (16384 < width t mask (suc v))

-- a mask is accepted exactly where nothing is wrong with it, and then it is a frame, whose codes are the positions of the projection
abbrev pub Frames : {A : Type 0} → Task → ℕ → Result A FrameFault → Type 0
Frames t mask (Ok _) = ((e : FrameFault) → MaskWrong t mask e → ⊥) × IsFrame t mask × OneForOne t mask
Frames t mask (Err e) = First frame_turn (MaskWrong t mask) e

-- the strides of the variables below n, 1 from n on, and the product of all; or the lowest variable at which the product passes the limit
abbrev pub Measured : List ℕ → ℕ → ℕ → Result (List ℕ × ℕ) FrameFault → Type 0
Measured sizes mask n (Ok (strides, size)) = Strided sizes mask n strides × OnesFrom n strides × (size ≡ width_by (size_in sizes) mask n) × (size ≤ 16384)
Measured sizes mask n (Err (TooLarge v)) = (v < n) × (16384 < width_by (size_in sizes) mask (suc v)) × Small sizes mask v
Measured sizes mask n (Err _) = ⊥
