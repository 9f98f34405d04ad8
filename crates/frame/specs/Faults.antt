-- The number, layer and place of each fault of a frame, and the order in which they are tried.
use Rattle.std.specs.Prelude.{ℕ, List, [], ◌∷◌}
use Rattle.task.specs.declared.refusal.Refusal.{Refusal}
use Rattle.task.specs.declared.refusal.Layer.TheVariants.{Frame}
use Rattle.frame.specs.declared.fault.FrameFault.{FrameFault}
use Rattle.frame.specs.declared.fault.FrameFault.TheVariants.{EmptyMask, NoSuchVariable, TooLarge}

abbrev pub frame_refusal : FrameFault → Refusal
frame_refusal EmptyMask = record { number = 10; layer = Frame; place = (32, 0) }
frame_refusal (NoSuchVariable v) = record { number = 10; layer = Frame; place = (v, 0) }
frame_refusal (TooLarge v) = record { number = 11; layer = Frame; place = (v, 0) }

-- an empty mask, then the lowest variable that is not there, then the lowest at which the product passes
abbrev pub frame_turn : FrameFault → List ℕ
frame_turn EmptyMask = 10 ∷ 0 ∷ 0 ∷ []
frame_turn (NoSuchVariable v) = 10 ∷ 1 ∷ v ∷ []
frame_turn (TooLarge v) = 11 ∷ 0 ∷ v ∷ []
