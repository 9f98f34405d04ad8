use Rattle.layout.proofs.Faulting.{links}
use Rattle.layout.proofs.check.check_links.Goals as goal

pub returns : goal.returns
returns c = links c.args.words.now c.check_nexts.result c.in_ok-check_heads.ensures c.check_nexts.ensures
