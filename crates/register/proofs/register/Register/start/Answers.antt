use Rattle.std.proofs.Common.{ap, ◌∙◌, arith}
use Rattle.register.proofs.register.Register.start.Goals as goal

pub invariant_of-self-clause-beyond : goal.invariant_of-self-clause-beyond
invariant_of-self-clause-beyond g c v h =
    let law = g.met.S.TaskSource.lawful c.args.source.now in
    ap (λ f. f v) c.of-self.ensures.sizes ∙ law.outside v (omega (arith, c.of-self.ensures.n))
