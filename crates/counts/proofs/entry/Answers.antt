use Rattle.counts.proofs.Entries.{entry_counts}
use Rattle.counts.proofs.entry.Goals as goal

pub returns : goal.returns
returns c = entry_counts c.table.result.now c.table.ensures.long c.table.ensures.rule c.args.a c.args.b c.requires.things c.requires.members
