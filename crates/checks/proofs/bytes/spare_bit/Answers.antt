use Rattle.std.proofs.Common.{◌≡◌, true, false, rules}
use borrow.Author.Tests.{tests}
use Rattle.std.proofs.lemmas.Iterator.{first_from_Range}
use Rattle.shelves.specs.Shelves.{bit_of}
use Rattle.checks.proofs.Faulting.{spare_least}
use Rattle.checks.proofs.bytes.spare_bit.Goals as goal

pub returns : goal.returns
returns c =
    let bytes = c.args.bytes.now in
    spare_least c.args.size bytes c.find.result
    (first_from_Range _ _ _ _ (λ b. bit_of bytes b ≡ true) (λ b. bit_of bytes b ≡ false) c.find.ensures.ran (λ x q k. search (rules, tests)) (λ x q k. search (rules, tests)))
