use Rattle.std.proofs.Common.{◌≡◌, ◌-◌, ◌%◌, ◌^◌}
use Rattle.numbers.specs.Numbers.{count, among, frames}
use Rattle.numbers.proofs.Windows.{Window}
use Rattle.numbers.proofs.number.number_of.Given as goal

abbrev pub invariant-loop-v : goal.invariant-loop-v
invariant-loop-v l = record {
  left : l.left ≡ count l.candidates (32 - l.v) l.v;
  wanted : l.wanted ≡ count l.mask (32 - l.v) l.v;
  window : Window (frames l.candidates (count l.mask 32 0)) (among l.candidates (32 - l.v) l.v l.wanted) l.number (l.mask % 2 ^ l.v);
}
