use Rattle.std.proofs.Common.{Ok, Err, cond, refl, ap, ◌∙◌, sym, rules}
use Rattle.std.specs.Slice.Iter.{iter_rest}
use Rattle.command.specs.declared.kinds.LineFault.TheVariants.{NoNumber}
use Rattle.command.specs.declared.kinds.ParseError.TheVariants.{Line}
use Rattle.command.specs.Commands.{narrow}
use Rattle.command.proofs.Gathering.{slices, gathered, of_line}
use Rattle.command.proofs.Wording.{gathers-narrow}
use Rattle.command.proofs.Saying.{if_memory-weaker}
use Rattle.command.proofs.take.narrowed.Goals as goal

pub returns : goal.returns
returns c =
    let r = c.try_collect.result in
    let same = ap iter_rest c.map.ensures.source ∙ c.iter.ensures.rest in
    if_memory-weaker r _ _
    (gathered slices _ _ (λ x. cond (narrow x) (Ok x) (Err (Line NoNumber))) (λ x r q k. (refl, search rules))
    c.map.result r c.map.ensures.closure tt c.try_collect.ensures.ran c.try_collect.ensures.err)
    (λ found p. rw (sym same ∙ p.1) (of_line found _ (p.2 ∙ gathers-narrow p.0)))
