use Rattle.std.proofs.Common.{sym, ◌∙◌}
use Rattle.std.proofs.lemmas.Bool.{le-ltb}
use Rattle.model.proofs.Masks.{has_beyond}
use Rattle.task.proofs.mask.contains.Goals as goal

pub returns-else-v-lt-MAX_VARIABLES : goal.returns-else-v-lt-MAX_VARIABLES
returns-else-v-lt-MAX_VARIABLES c =
    let v = c.args.v in
    le-ltb v 32 c.if-v-lt-MAX_VARIABLES.false ∙ sym (has_beyond c.args.mask 32 v c.ranges.mask.fits c.if-v-lt-MAX_VARIABLES.false)
