use Rattle.std.proofs.Common.{◌≡◌, ℕ, ◌^◌, ◌<◌, ◌≤◌, List, get_or, sym, ap, ◌∙◌, subst, arith}
use Rattle.model.specs.Tasks.{Task, Lawful}
use Rattle.model.specs.Frames.{width_by, width, frame_size}
use Rattle.frame.specs.Held.{size_in, Sized}
use Rattle.frame.proofs.Measuring.{size_in_below}
use Rattle.frame.proofs.Faulting.{within, frame_right}
use Rattle.frame.proofs.build.build.Goals as goal

sized : (t : Task) → Lawful t → (sizes : List ℕ) → size_in sizes ≡ t.size → Sized sizes
sized t law sizes e v h = let q : get_or sizes v 0 ≡ t.size v = sym (size_in_below sizes v h) ∙ ap (λ f. f v) e in omega (arith, law.sizes v)

pub measure-requires-clause-sized : goal.measure-requires-clause-sized
measure-requires-clause-sized g c =
    let s = c.args.source.now in sized (g.S.TaskSource.task s) (g.met.S.TaskSource.lawful s) c.sizes_of-sizes.result c.sizes_of-sizes.ensures

pub invariant_of-result-clause-sized : goal.invariant_of-result-clause-sized
invariant_of-result-clause-sized g c =
    let s = c.args.source.now in sized (g.S.TaskSource.task s) (g.met.S.TaskSource.lawful s) c.sizes_of-sizes.result c.sizes_of-sizes.ensures

pub invariant_of-result-clause-legal : goal.invariant_of-result-clause-legal
invariant_of-result-clause-legal g c =
    let s = c.args.source.now in
    let t = g.S.TaskSource.task s in
    subst (λ n. c.args.mask < 2 ^ n) (sym c.variables-n.ensures)
    (within t (g.met.S.TaskSource.lawful s) c.args.mask (omega (arith, c.if-mask-eq0.false)) (λ v w. c.in_default.ensures v (omega (arith, w.0, c.variables-n.ensures), w.1)))

pub returns-clause-frames : goal.returns-clause-frames
returns-clause-frames g c =
    let s = c.args.source.now in
    let t = g.S.TaskSource.task s in
    let m = c.in_ok-strides.ensures in
    let e : c.in_ok-strides.size ≡ frame_size t c.args.mask = m.2 ∙ ap (λ f. width_by f c.args.mask c.variables-n.result) c.sizes_of-sizes.ensures ∙ ap (width t c.args.mask) c.variables-n.ensures in
    frame_right t (g.met.S.TaskSource.lawful s) c.args.mask (omega (arith, c.if-mask-eq0.false)) (λ v w. c.in_default.ensures v (omega (arith, w.0, c.variables-n.ensures), w.1)) (subst (λ x. x ≤ 16384) e m.3)
