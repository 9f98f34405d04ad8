use Rattle.std.proofs.Common.{◌≡◌, length, ap, ◌∙◌, arith}
use Rattle.shelves.specs.Shelves.{bytes_for}
use Rattle.checks.proofs.Faulting.{first_length, first_spare, bytes_right}
use Rattle.checks.proofs.bytes.check_bytes.Goals as goal

pub returns-then-bytes-bytes_for : goal.returns-then-bytes-bytes_for
returns-then-bytes-bytes_for c =
    let k : c.bytes_for.result ≡ bytes_for c.args.frame.now.size = c.bytes_for.ensures ∙ ap bytes_for c.size-size.ensures in
    first_length c.args.frame.now.size c.args.bytes.now (λ e. c.if-bytes-bytes_for.true (omega (arith, k, e)))

pub returns-in-Some : goal.returns-in-Some
returns-in-Some c =
    let k : length c.args.bytes.now ≡ bytes_for c.args.frame.now.size = omega (arith, c.if-bytes-bytes_for.false, c.bytes_for.ensures, ap bytes_for c.size-size.ensures) in
    first_spare c.args.frame.now.size c.args.bytes.now k c.in-Some.b (rw c.size-size.ensures at c.in-Some.ensures)

pub returns-in-None : goal.returns-in-None
returns-in-None c =
    let k : length c.args.bytes.now ≡ bytes_for c.args.frame.now.size = omega (arith, c.if-bytes-bytes_for.false, c.bytes_for.ensures, ap bytes_for c.size-size.ensures) in
    bytes_right c.args.frame.now.size c.args.bytes.now k (rw c.size-size.ensures at c.in-None.ensures)
