-- When nothing is wrong with a mask.
use Rattle.std.proofs.Common.{◌≡◌, ℕ, suc, ◌^◌, ◌<◌, ◌≤◌, true, arith}
use Rattle.model.specs.Tasks.{Task, Lawful}
use Rattle.model.specs.LeaveOut.{has}
use Rattle.model.specs.Frames.{width, frame_size, OneForOne, IsFrame}
use Rattle.model.proofs.Masks.{mask_below}
use Rattle.model.proofs.Coding.{width_up, one_for_one}
use Rattle.frame.specs.declared.fault.FrameFault.{FrameFault}
use Rattle.frame.specs.Wrong.{MaskWrong}

module _ (t : Task) (law : Lawful t) (mask : ℕ) (some : 0 < mask) (none : (v : ℕ) → (t.n ≤ v) × (has mask v ≡ true) → ⊥) where
  pub within : mask < 2 ^ t.n
  within = mask_below mask t.n (λ v b. grind (arith, none v))

  pub frame_right : frame_size t mask ≤ 16384 → ((e : FrameFault) → MaskWrong t mask e → ⊥) × IsFrame t mask × OneForOne t mask
  frame_right small =
      let fits : (v : ℕ) → v < t.n → width t mask (suc v) ≤ 16384 = λ v l. omega (arith, width_up t law mask (suc v) t.n l) in
      (λ e w. grind (arith, some, none, fits), (some, within, small), one_for_one t law mask)
