use Rattle.std.proofs.Common.{refl}
use Rattle.std.proofs.lemmas.Bool.{false≢true}
use Rattle.checks.proofs.Faulting.{first_records, first_pool_length, memory_right}
use Rattle.checks.proofs.room.Memory.check.Goals as goal

pub returns-then-not-fits : goal.returns-then-not-fits
returns-then-not-fits c = first_records c.args.self (λ h. false≢true (c.if-not-fits.ensures.1 h))

pub returns-then-not-fits-2 : goal.returns-then-not-fits-2
returns-then-not-fits-2 c = first_pool_length c.args.self (c.if-not-fits.ensures.0 refl) (λ h. false≢true (c.if-not-fits-2.ensures.1 h))

pub returns : goal.returns
returns c = memory_right c.args.self (c.if-not-fits.ensures.0 refl) (c.if-not-fits-2.ensures.0 refl)
