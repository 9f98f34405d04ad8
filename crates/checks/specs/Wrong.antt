-- What can be wrong with what a call of the register is given, in groups.
use Rattle.std.specs.Prelude.{ℕ, ◌<◌, ◌≤◌, Bool, not, T, List, length, Ok, Err, Result, ◌≢◌}
use Rattle.model.specs.Tasks.{Task, Applies, after, IsGoal}
use Rattle.model.specs.Orders.{First}
use Rattle.model.specs.Frames.{onto, code, frame_size, values}
use Rattle.task.specs.declared.fault.PlanFault.{PlanFault}
use Rattle.task.specs.Plans.{PlanWrong}
use Rattle.frame.specs.declared.fault.FrameFault.{FrameFault}
use Rattle.frame.specs.Wrong as frames
use Rattle.shelves.specs.Shelves.{Shelf, covered, bit_of, bytes_for}
use Rattle.checks.specs.declared.room.Memory.{Memory}
use Rattle.checks.specs.declared.fault.RegisterFault.{RegisterFault}
use Rattle.checks.specs.declared.fault.RegisterFault.TheVariants.{Frame, WrongLength, SpareBit, Plan, BadMemory, OtherCount, OtherSize, MeetsGoal, LeadsOut, NoRecord, PoolTooShort}
use Rattle.checks.specs.Faults.{register_turn}

-- what a test of a group of faults answers: accepted exactly where nothing is wrong, and else what is tried first
abbrev pub Checks : {A : Type 0} → (RegisterFault → Type 0) → Result A RegisterFault → Type 0
Checks Wrong (Ok _) = (e : RegisterFault) → Wrong e → ⊥
Checks Wrong (Err e) = First register_turn Wrong e

-- ---- memory

abbrev pub RecordsFit : Memory → Type 0
RecordsFit M = (1 ≤ M.records) × (M.records ≤ 1024)

abbrev pub PoolFits : Memory → Type 0
PoolFits M = (1 ≤ M.pool) × (M.pool ≤ 1048576)

-- the records, then the pool, are none or too many
pub data MemoryWrong (M : Memory) : RegisterFault → Type 0 where
  bad_records : (RecordsFit M → ⊥) → MemoryWrong M (BadMemory M.records)
  bad_pool : RecordsFit M → (PoolFits M → ⊥) → MemoryWrong M (BadMemory M.pool)

-- ---- the groups, in the order in which they are tried

pub data MaskWrong (t : Task) (f : ℕ) : RegisterFault → Type 0 where
  in_mask : (e : FrameFault) → frames.MaskWrong t f e → MaskWrong t f (Frame e)

-- of a claim on a frame of this size
pub data BytesWrong (size : ℕ) (bytes : List ℕ) : RegisterFault → Type 0 where
  misfit : (length bytes ≢ bytes_for size) → BytesWrong size bytes (WrongLength (length bytes))
  spare : (b : ℕ) → size ≤ b → T (bit_of bytes b) → BytesWrong size bytes (SpareBit b)

pub data OperatorsWrong (t : Task) (os : List ℕ) : RegisterFault → Type 0 where
  in_plan : (e : PlanFault) → PlanWrong t os e → OperatorsWrong t os (Plan e)

-- the task is not of the variables and sizes that were opened
pub data TaskWrong (t : Task) (n : ℕ) (sizes : ℕ → ℕ) : RegisterFault → Type 0 where
  recount : (n ≢ t.n) → TaskWrong t n sizes OtherCount
  resize : (v : ℕ) → v < t.n → (sizes v ≢ t.size v) → TaskWrong t n sizes (OtherSize v)

-- c is in the set and not covered
abbrev pub Open : Task → List Shelf → ℕ → (ℕ → Bool) → ℕ → Type 0
Open t ss f set c = (c < frame_size t f) × T (set c) × T (not (covered t ss f (values t f c)))

-- o leads from c to a code that is neither in the set nor covered
abbrev pub Leaves : Task → List Shelf → ℕ → (ℕ → Bool) → ℕ → ℕ → Type 0
Leaves t ss f set c o =
    Applies (onto f t) o (values t f c) × T (not (set (code t f (after (onto f t) o (values t f c))))) × T (not (covered t ss f (after (onto f t) o (values t f c))))

-- the set is not closed
pub data SetWrong (t : Task) (ss : List Shelf) (f : ℕ) (set : ℕ → Bool) : RegisterFault → Type 0 where
  meets : (c : ℕ) → Open t ss f set c → IsGoal (onto f t) (values t f c) → SetWrong t ss f set (MeetsGoal c)
  leads : (c o : ℕ) → Open t ss f set c → o < t.m → Leaves t ss f set c o → SetWrong t ss f set (LeadsOut c o)

-- no room for one shelf more: all records are taken, or fewer bytes are there than needed
pub data RoomWrong (records taken pool needed : ℕ) : RegisterFault → Type 0 where
  records_full : records ≤ taken → RoomWrong records taken pool needed (NoRecord records)
  pool_full : pool < needed → RoomWrong records taken pool needed (PoolTooShort needed)
