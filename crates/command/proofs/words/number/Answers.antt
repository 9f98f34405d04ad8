use Rattle.std.proofs.Common.{arith}
use Rattle.std.proofs.lemmas.Grind.{common_steps}
use Rattle.command.proofs.Wording.{number_read}
use Rattle.command.proofs.words.number.Goals as goal

pub returns : goal.returns
returns c = let e = number_read c.args.word.now c.parse.result c.parse.ensures.value.0 in rw (← e) (grind (arith, common_steps))
