use Rattle.std.proofs.Common.{rules, ◌&&◌, ◌∙◌}
use borrow.Author.Tests.{tests}
use Rattle.std.proofs.lemmas.Iterator.{YieldsList-from_slice}
use Rattle.std.proofs.lemmas.Iterator.Search.{any_from_yields_List}
use Rattle.model.specs.Tasks.{position}
use Rattle.model.specs.Frames.{strictly_inside}
use Rattle.records.specs.Records.{on}
use Rattle.records.proofs.Looking.{covered_any}
use Rattle.records.proofs.lookup.Shelves.is_covered.Goals as goal

pub returns : goal.returns
returns c =
    let s = c.args.self.now in
    let p = position c.args.values.now in
    let any = any_from_yields_List (λ r. strictly_inside r.frame.mask c.args.mask && on s.pool.now r p) _ _ _ c.any.ensures.ran (YieldsList-from_slice s.records.now cc) (λ x b q k. search (rules, tests)) in
    let told = any ∙ covered_any s.pool.now s.records.now c.args.mask p in
    search rules
