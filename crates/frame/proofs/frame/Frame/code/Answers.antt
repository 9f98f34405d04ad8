use Rattle.std.proofs.Common.{arith}
use Rattle.std.proofs.lemmas.Nat.{mul-le}
use Rattle.model.specs.Tasks.{position}
use Rattle.model.specs.Frames.{width_by}
use Rattle.frame.specs.Held.{size_in}
use Rattle.frame.proofs.Framed.{width_fits}
use Rattle.frame.proofs.Bounding.{code_small}
use Rattle.frame.proofs.frame.Frame.code.Goals as goal

pub overflow_add-code : goal.overflow_add-code
overflow_add-code c =
    let s = c.args.self.now in
    let p = position c.args.values.now in
    let v = c.loop-v.v in
    let so_far = code_small (size_in s.sizes) s.mask p v (λ u. omega (arith, c.type_inv.values u)) (λ u l. (width_fits s u (omega arith)).1) in
    let more = mul-le (p v) (width_by (size_in s.sizes) s.mask v) 65535 16384 (omega (arith, c.type_inv.values v)) (width_fits s v (omega arith)).1 in
    omega (arith, so_far, more, c.loop-v.invariant, c.digit-code.ensures, s.few)
