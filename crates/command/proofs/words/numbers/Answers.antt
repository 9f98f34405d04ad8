use Rattle.std.proofs.Common.{refl, ◌∙◌, subst, rules}
use Rattle.std.specs.Option.{ok_or}
use Rattle.std.specs.Str.Iter.{split_whitespace_rest}
use Rattle.command.specs.declared.kinds.LineFault.TheVariants.{NoNumber}
use Rattle.command.specs.declared.kinds.ParseError.TheVariants.{Line}
use Rattle.command.specs.Words.{Words, numeral}
use Rattle.command.proofs.Gathering.{gathered, of_line}
use Rattle.command.proofs.Texts.{texts}
use Rattle.command.proofs.Wording.{gathers-numerals}
use Rattle.command.proofs.Saying.{if_memory-weaker}
use Rattle.command.proofs.words.numbers.Goals as goal

pub returns : goal.returns
returns c =
    let r = c.try_collect.result in
    if_memory-weaker r _ _
    (gathered texts _ _ (λ w. ok_or (numeral 32 w) (Line NoNumber)) (λ x r q k. (refl, search rules))
    c.map.result r c.map.ensures.closure (rw c.map.ensures.source c.requires) c.try_collect.ensures.ran c.try_collect.ensures.err)
    (λ found p. (p.0, subst (λ s. Words (split_whitespace_rest s) p.0) c.map.ensures.source p.1, of_line found _ (p.2 ∙ gathers-numerals p.0)))
