use Rattle.std.proofs.Common.{◌∙◌, sym, refl, arith}
use Rattle.layout.proofs.Faulting.{none_yet, none_more, first_tried}
use Rattle.layout.proofs.check.check_counts.Goals as goal

pub returns-then-words-card_length : goal.returns-then-words-card_length
returns-then-words-card_length c =
    let ws = c.args.words.now in
    let two = none_more ws 1 (none_yet ws) (λ i w. omega (arith, w.1)) in
    let three = none_more ws 2 two (λ i w. omega (arith, w)) in
    let four = none_more ws 3 three c.in_ok-check_limits.ensures in
    first_tried ws 4 four _ (_, refl, ((refl, λ e. c.if-words-card_length.true (e ∙ sym c.card_length.ensures)), λ j l w. omega (arith, w.0))) (λ i. (refl, refl))

pub returns : goal.returns
returns c =
    let ws = c.args.words.now in
    let two = none_more ws 1 (none_yet ws) (λ i w. omega (arith, w.1)) in
    let three = none_more ws 2 two (λ i w. omega (arith, w)) in
    let four = none_more ws 3 three c.in_ok-check_limits.ensures in
    none_more ws 4 four (λ i w. w.1 (c.if-words-card_length.false ∙ c.card_length.ensures))
