use Rattle.std.proofs.Common.{◌≡◌, ◌-◌}
use Rattle.model.specs.Card.{chain, value_in}
use Rattle.layout.proofs.words.walk.Given as goal

abbrev pub invariant-loop-step : goal.invariant-loop-step
invariant-loop-step l = value_in l.words (chain l.most l.words l.first) l.v ≡ value_in l.words (chain (l.most - l._step) l.words l.k) l.v
