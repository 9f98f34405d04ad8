use Rattle.std.proofs.Common.{◌≡◌, ◌≤◌, not, ◌&&◌}
use Rattle.shelves.specs.Shelves.{bit_of}
use Rattle.shelves.specs.Filing.{count}
use Rattle.records.proofs.Putting.{Joined}
use Rattle.records.proofs.bits.join.Given as goal

abbrev pub invariant-loop-c : goal.invariant-loop-c
invariant-loop-c g l =
    Joined l.initial.bytes (g.C.CodeSet.members l.set) l.c l.bytes
    × (l.new ≡ count l.c (λ c. g.C.CodeSet.members l.set c && not (bit_of l.initial.bytes c)))
    × (l.new ≤ l.c)
