use Rattle.std.proofs.Common.{◌≡◌, ◌-◌, ◌^◌, ◌<◌, ◌≤◌}
use Rattle.numbers.specs.Numbers.{count, frames}
use Rattle.numbers.proofs.Walking.{Goes}
use Rattle.numbers.proofs.number.set_at.Given as goal

abbrev pub invariant-loop-v : goal.invariant-loop-v
invariant-loop-v l = record {
  left : l.left ≡ count l.candidates (32 - l.v) l.v;
  few : l.wanted ≤ 32;
  below : l.mask < 2 ^ l.v;
  goes : Goes (frames l.candidates l.k) l.number l.candidates l.v l.wanted l.rest l.mask;
}
