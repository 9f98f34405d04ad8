-- What the sizes and strides of a frame come to.
use Rattle.std.proofs.Common.{◌≡◌, ℕ, ◌/◌, ◌%◌, ◌<◌, ◌≤◌, true, get_or, sym, ap, ◌∙◌, arith}
use Rattle.std.proofs.lemmas.Bool.{cond-true}
use Rattle.model.specs.LeaveOut.{has}
use Rattle.model.specs.Frames.{width_by, values_by}
use Rattle.model.proofs.Masks.{has_below}
use Rattle.model.proofs.Coding.{width_by_up}
use Rattle.frame.specs.declared.frame.Frame.{Frame}
use Rattle.frame.specs.Held.{size_in}
use Rattle.frame.proofs.Measuring.{size_in_below, size_some}

module _ (f : Frame) (v : ℕ) where
  -- the product of the frame's lower variables is within 1 and the limit
  pub width_fits : v ≤ f.n → (1 ≤ width_by (size_in f.sizes) f.mask v) × (width_by (size_in f.sizes) f.mask v ≤ 16384)
  width_fits h =
      let up = width_by_up (size_in f.sizes) f.mask (size_some f.sizes f.sized) in
      (up 0 v (omega arith), omega (arith, up v f.n h, f.whole, f.small))

  pub stride_some : v < f.n → 1 ≤ get_or f.strides v 0
  stride_some h = omega (arith, f.strided v h, (width_fits (omega arith)).0)

  pub in_frame : has f.mask v ≡ true → v < f.n
  in_frame e = has_below f.mask f.n v f.legal e

  pub value_in : (code : ℕ) → has f.mask v ≡ true → code / get_or f.strides v 0 % get_or f.sizes v 0 ≡ values_by (size_in f.sizes) f.mask code v
  value_in code e =
      ap (λ w. code / w % get_or f.sizes v 0) (f.strided v (in_frame e))
      ∙ ap (λ k. code / width_by (size_in f.sizes) f.mask v % k) (sym (size_in_below f.sizes v (omega (arith, in_frame e, f.few))))
      ∙ sym (cond-true (has f.mask v) (code / width_by (size_in f.sizes) f.mask v % size_in f.sizes v) 0 e)
