use Rattle.std.proofs.Common.{arith, lit<}
use Rattle.std.proofs.lemmas.Grind.{common_steps}
use Rattle.std.proofs.lemmas.Str.Pattern.{split_parts}
use Rattle.command.proofs.parse.before_comment.Goals as goal

pub returns : goal.returns
returns c =
    let p = split_parts 35 c.args.line.now c.split_once.result c.split_once.ensures.cases (lit< tt) in
    grind (arith, common_steps)
