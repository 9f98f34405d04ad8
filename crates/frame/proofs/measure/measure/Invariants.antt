use Rattle.std.proofs.Common.{◌≡◌, ◌≤◌, length}
use Rattle.model.specs.Frames.{width_by}
use Rattle.frame.specs.Held.{size_in, Strided, OnesFrom, Small}
use Rattle.frame.proofs.measure.measure.Given as goal

abbrev pub invariant-loop-v : goal.invariant-loop-v
invariant-loop-v l = record {
  product : l.size ≡ width_by (size_in l.sizes) l.mask l.v;
  small : l.size ≤ 16384;
  long : length l.strides ≡ 32;
  strided : Strided l.sizes l.mask l.v l.strides;
  rest : OnesFrom l.v l.strides;
  passed : Small l.sizes l.mask l.v;
}
