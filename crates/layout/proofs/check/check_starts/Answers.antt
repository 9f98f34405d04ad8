use Rattle.std.proofs.Common.{rules, ◌+◌, ◌<◌, ◌≤◌}
use borrow.Author.Tests.{tests}
use Rattle.std.proofs.iter.runs.Sources.{ranges}
use Rattle.std.proofs.lemmas.Iterator.{first_from_Range}
use Rattle.model.specs.Card.{word, start_at}
use Rattle.layout.proofs.check.check_starts.Goals as goal

pub overflow_add-result-in-Some : goal.overflow_add-result-in-Some
overflow_add-result-in-Some c = let l : c.in-Some.v < c.variables-n.result = search (rules, ranges) in search rules

pub returns-in-Some : goal.returns-in-Some
returns-in-Some c =
    let ws = c.args.words.now in
    let f = first_from_Range _ _ _ _ (λ v. word ws (4 + v) ≤ word ws (start_at ws v)) (λ v. word ws (start_at ws v) < word ws (4 + v)) c.find.ensures.ran (λ x q k. search (rules, tests)) (λ x q k. search (rules, tests)) in
    let h = rw c.in-Some.is at f in
    search rules

pub returns-in-None : goal.returns-in-None
returns-in-None c =
    let ws = c.args.words.now in
    let f = first_from_Range _ _ _ _ (λ v. word ws (4 + v) ≤ word ws (start_at ws v)) (λ v. word ws (start_at ws v) < word ws (4 + v)) c.find.ensures.ran (λ x q k. search (rules, tests)) (λ x q k. search (rules, tests)) in
    let h = rw c.in-None.is at f in
    search rules
