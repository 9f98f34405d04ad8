use Rattle.std.proofs.Common.{◌≡◌, suc, ◌+◌, ◌-◌, ◌≤◌, Some, sym, ap, ◌∙◌, arith}
use Rattle.model.specs.Card.{chain, value_in}
use Rattle.model.proofs.Chains.{walk_end, walk_here, walk_on}
use Rattle.layout.proofs.words.walk.Goals as goal

pub loop-step-init : goal.loop-step-init
loop-step-init c =
    let ws = c.args.words.now in
    let e : c.args.most ≡ c.args.most - 0 = omega arith in
    ap (λ i. value_in ws (chain i ws c.args.first) c.args.v) e

pub returns-then-k-eq0 : goal.returns-then-k-eq0
returns-then-k-eq0 c =
    let ws = c.args.words.now in
    let i = c.args.most - c.loop-step._step in
    sym (c.loop-step.invariant ∙ ap (λ k. value_in ws (chain i ws k) c.args.v) c.if-k-eq0.true ∙ walk_end ws c.args.v i)

pub returns-then-variable_of-v : goal.returns-then-variable_of-v
returns-then-variable_of-v c =
    let i = c.args.most - c.loop-step._step in
    ap Some c.value_of.ensures
    ∙ sym (c.loop-step.invariant ∙ walk_here c.args.words.now c.loop-step.k c.args.v i (omega (arith, c.loop-step-test.true)) (omega (arith, c.if-k-eq0.false)) (sym c.variable_of.ensures ∙ c.if-variable_of-v.true))

pub loop-step-preserved : goal.loop-step-preserved
loop-step-preserved c =
    let ws = c.args.words.now in
    let i = c.args.most - c.loop-step._step in
    let j = c.args.most - (c.loop-step._step + 1) in
    let e : i ≡ suc j = omega (arith, c.loop-step-test.true) in
    let low : 1 ≤ c.loop-step.k = omega (arith, c.if-k-eq0.false) in
    c.loop-step.invariant
    ∙ walk_on ws c.loop-step.k c.args.v i j e low (λ q. c.if-variable_of-v.false (c.variable_of.ensures ∙ q))
    ∙ ap (λ k. value_in ws (chain j ws k) c.args.v) (sym c.next_of-k.ensures)

pub returns : goal.returns
returns c =
    let ws = c.args.words.now in
    let none : c.args.most - c.loop-step._step ≡ 0 = omega (arith, c.loop-step-test.false) in
    sym (c.loop-step.invariant ∙ ap (λ i. value_in ws (chain i ws c.loop-step.k) c.args.v) none)
