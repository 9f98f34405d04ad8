use Rattle.std.proofs.Common.{Decides, sym, subst}
use Rattle.shelves.specs.Shelves.{bit_of}
use Rattle.records.specs.Records.{shelves_of}
use Rattle.checks.specs.Wrong.{Leaves}
use Rattle.checks.proofs.Sealing.{leaves_decided}
use Rattle.checks.proofs.closed.Claim.leads_out.Goals as goal

pub returns-in-Some : goal.returns-in-Some
returns-in-Some g c fits =
    let q = c.args.self.now in
    let t = g.S.TaskSource.task c.args.source.now in
    subst (λ b. Decides b (Leaves t (shelves_of q.shelves.pool.now q.shelves.records.now) q.frame.now.mask (bit_of q.bytes.now) c.args.c c.args.o)) (sym c.is_out.ensures)
    (leaves_decided t (g.met.S.TaskSource.lawful c.args.source.now) q fits c.args.c c.args.o c.in-Some.d c.in-Some.ensures)
