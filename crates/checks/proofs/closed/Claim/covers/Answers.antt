use Rattle.std.proofs.Common.{◌∙◌}
use Rattle.records.specs.Records.{covered_in}
use Rattle.checks.proofs.closed.Claim.covers.Goals as goal

pub returns : goal.returns
returns c =
    let s = c.args.self.now.shelves in
    c.is_covered.ensures ∙ (λ i. covered_in s.pool.now s.records.now (c.mask.ensures i) (c.values.ensures i))
