use Rattle.std.proofs.Common.{◌≡◌, ◌<◌, eqb, length, sym, subst, rules}
use Rattle.std.specs.Option.{MatchOption}
use Rattle.std.proofs.lemmas.Iterator.{YieldsList-from_slice}
use Rattle.std.proofs.lemmas.Iterator.Search.{position_from_yields_List}
use Rattle.shelves.specs.Shelves.{place}
use Rattle.records.specs.Records.{shelves_of}
use Rattle.records.proofs.Looking.{place_told}
use Rattle.records.proofs.lookup.Shelves.place_of.Goals as goal

pub returns : goal.returns
returns c pool =
    let rs = c.args.self.now.records.now in
    let at = place (shelves_of pool rs) c.args.mask in
    let found = position_from_yields_List (λ r. eqb r.frame.mask c.args.mask) _ _ _ c.position.ensures.ran (YieldsList-from_slice rs cc) (λ x b q k. search rules) in
    let told = subst (λ w. MatchOption w (at ≡ length rs) (λ i. (i < length rs) × (at ≡ i))) (sym found) (place_told pool rs c.args.mask) in
    search rules
