use Rattle.std.proofs.Common.{rules, ℕ, ◌+◌, ◌<◌, ◌≤◌, ◌⊎◌}
use borrow.Author.Tests.{tests}
use Rattle.model.specs.Card.{word, variables, variable_of, value_of}
use Rattle.layout.proofs.Finds.{Finds, record_found}
use Rattle.layout.proofs.check.check_records.Goals as goal
use Rattle.layout.proofs.check.check_records.Goals.{After-find}

abbrev Yes : After-find → ℕ → Type 0
Yes c k = let ws = c.args.words.now in (variables ws ≤ variable_of ws k) ⊎ (word ws (4 + variable_of ws k) ≤ value_of ws k)

abbrev No : After-find → ℕ → Type 0
No c k = let ws = c.args.words.now in (variable_of ws k < variables ws) × (value_of ws k < word ws (4 + variable_of ws k))

searched : (c : After-find) → Finds c.records.result (Yes c) (No c) c.find.result
searched c = record_found c.records.result (search rules) (Yes c) (No c) _ _ c.find.result c.find.ensures.ran (λ x q k. search (rules, tests)) (λ x q k. search (rules, tests))

pub returns-in-Some : goal.returns-in-Some
returns-in-Some c =
    let found = searched (goal.at.returns-in-Some c).After-find in
    let h = rw c.in-Some.is at found in
    search rules

pub returns-in-Some-2 : goal.returns-in-Some-2
returns-in-Some-2 c =
    let found = searched (goal.at.returns-in-Some-2 c).After-find in
    let h = rw c.in-Some-2.is at found in
    search rules

pub returns-in-None : goal.returns-in-None
returns-in-None c =
    let found = searched (goal.at.returns-in-None c).After-find in
    let h = rw c.in-None.is at found in
    search rules
