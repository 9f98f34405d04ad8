-- What a register in memory holds.
use Rattle.std.specs.Prelude.{◌≡◌, length, take, Ok, Err, Result}
use Rattle.model.specs.Tasks.{Task}
use Rattle.model.specs.Orders.{First}
use Rattle.frame.specs.Held.{size_in}
use Rattle.shelves.specs.Filing.{State, opened}
use Rattle.records.specs.Records.{shelves_of}
use Rattle.checks.specs.declared.room.Memory.{Memory}
use Rattle.checks.specs.declared.fault.RegisterFault.{RegisterFault}
use Rattle.checks.specs.Faults.{register_turn}
use Rattle.checks.specs.Wrong.{MemoryWrong}
use Rattle.register.specs.declared.register.Register.{Register}

abbrev pub state_of : Register → State
state_of r = record {
  n = r.variables.n;
  sizes = size_in r.variables.sizes;
  shelves = shelves_of r.pool.now (take r.count r.records.now);
  verdict = r.verdict;
}

abbrev pub memory_of : Register → Memory
memory_of r = record { records = length r.records.now; pool = length r.pool.now }

-- an opening on s is accepted exactly where nothing is wrong with the memory, and then it starts anew
abbrev pub Opens : Task → Memory → State → Result (Unit {0}) RegisterFault → State → Type 0
Opens t M s (Ok _) s' = ((e : RegisterFault) → MemoryWrong M e → ⊥) × (s' ≡ opened t)
Opens t M s (Err e) s' = First register_turn (MemoryWrong M) e × (s' ≡ s)

-- the two hold the same records and bytes
abbrev pub SameMemory : Register → Register → Type 0
SameMemory a b = (b.records.now ≡ a.records.now) × (b.pool.now ≡ a.pool.now)
