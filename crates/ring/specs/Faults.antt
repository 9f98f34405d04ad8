-- The number, layer and place of each fault of a ring.
use Rattle.task.specs.declared.refusal.Refusal.{Refusal}
use Rattle.task.specs.declared.refusal.Layer.TheVariants.{Reduction}
use Rattle.ring.specs.declared.fault.RingFault.{RingFault}
use Rattle.ring.specs.declared.fault.RingFault.TheVariants.{Places}

abbrev pub ring_refusal : RingFault → Refusal
ring_refusal (Places n) = record { number = 20; layer = Reduction; place = (n, 0) }
