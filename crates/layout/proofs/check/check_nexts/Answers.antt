use Rattle.std.proofs.Common.{rules, ℕ, ◌<◌, ◌≤◌}
use borrow.Author.Tests.{tests}
use Rattle.model.specs.Card.{records, next_of}
use Rattle.layout.proofs.Finds.{Finds, record_found}
use Rattle.layout.proofs.check.check_nexts.Goals as goal
use Rattle.layout.proofs.check.check_nexts.Goals.{After-find}

abbrev Yes : After-find → ℕ → Type 0
Yes c k = let ws = c.args.words.now in records ws < next_of ws k

abbrev No : After-find → ℕ → Type 0
No c k = let ws = c.args.words.now in next_of ws k ≤ records ws

searched : (c : After-find) → Finds c.records.result (Yes c) (No c) c.find.result
searched c = record_found c.records.result (search rules) (Yes c) (No c) _ _ c.find.result c.find.ensures.ran (λ x q k. search (rules, tests)) (λ x q k. search (rules, tests))

pub returns-in-Some : goal.returns-in-Some
returns-in-Some c =
    let found = searched (goal.at.returns-in-Some c).After-find in
    let h = rw c.in-Some.is at found in
    search rules

pub returns-in-None : goal.returns-in-None
returns-in-None c =
    let found = searched (goal.at.returns-in-None c).After-find in
    let h = rw c.in-None.is at found in
    search rules
