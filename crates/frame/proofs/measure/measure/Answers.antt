use Rattle.std.proofs.Common.{rules}
use Rattle.frame.proofs.Measuring.{ones}
use Rattle.frame.proofs.measure.measure.Goals as goal

pub loop-v-init : goal.loop-v-init
loop-v-init c = search (rules, ones)
