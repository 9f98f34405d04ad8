-- Which fault of a group is tried first, and when nothing is wrong.
use Rattle.std.proofs.Common.{◌≡◌, ℕ, ◌*◌, ◌<◌, ◌≤◌, true, false, List, length, Some, None, Option, arith}
use Rattle.std.specs.Option.{MatchOption}
use Rattle.model.specs.Tasks.{Task}
use Rattle.model.specs.Orders.{First, Least}
use Rattle.shelves.specs.Shelves.{bit_of, bytes_for}
use Rattle.shelves.proofs.Bytes.{bit_within}
use Rattle.checks.specs.declared.room.Memory.{Memory}
use Rattle.checks.specs.declared.fault.RegisterFault.{RegisterFault}
use Rattle.checks.specs.declared.fault.RegisterFault.TheVariants.{WrongLength, SpareBit, BadMemory, OtherCount, OtherSize, NoRecord, PoolTooShort}
use Rattle.checks.specs.Faults.{register_turn}
use Rattle.checks.specs.Wrong.{RecordsFit, PoolFits, MemoryWrong, bad_records, bad_pool, BytesWrong, misfit, spare, TaskWrong, recount, resize, RoomWrong, records_full, pool_full}

-- ---- memory

module _ (M : Memory) where
  pub first_records : (RecordsFit M → ⊥) → First register_turn (MemoryWrong M) (BadMemory M.records)
  first_records h = (bad_records h, λ d wrong before. grind arith)

  pub first_pool_length : RecordsFit M → (PoolFits M → ⊥) → First register_turn (MemoryWrong M) (BadMemory M.pool)
  first_pool_length h w = (bad_pool h w, λ d wrong before. grind arith)

  pub memory_right : RecordsFit M → PoolFits M → (e : RegisterFault) → MemoryWrong M e → ⊥
  memory_right h w e v = grind arith

-- ---- room

module _ (records taken pool needed : ℕ) where
  pub first_record : records ≤ taken → First register_turn (RoomWrong records taken pool needed) (NoRecord records)
  first_record h = (records_full h, λ d wrong before. grind arith)

  pub first_pool : taken < records → pool < needed → First register_turn (RoomWrong records taken pool needed) (PoolTooShort needed)
  first_pool l h = (pool_full h, λ d wrong before. grind arith)

  pub room_right : taken < records → needed ≤ pool → (e : RegisterFault) → RoomWrong records taken pool needed e → ⊥
  room_right l h e w = grind arith

-- ---- the task

module _ (t : Task) (n : ℕ) (sizes : ℕ → ℕ) where
  pub first_count : (n ≡ t.n → ⊥) → First register_turn (TaskWrong t n sizes) OtherCount
  first_count h = (recount h, λ d wrong before. grind arith)

  pub first_size : n ≡ t.n → (v : ℕ) → Least (λ u. (u < t.n) × (sizes u ≡ t.size u → ⊥)) (Some v) → First register_turn (TaskWrong t n sizes) (OtherSize v)
  first_size e v least = (resize v least.0.0 least.0.1, λ d wrong before. grind (arith, least.1))

  pub task_right : n ≡ t.n → Least (λ u. (u < t.n) × (sizes u ≡ t.size u → ⊥)) None → (e : RegisterFault) → TaskWrong t n sizes e → ⊥
  task_right e none d w = grind (arith, none)

-- ---- the bytes of a claim

module _ (size : ℕ) (bytes : List ℕ) where
  abbrev Spare : ℕ → Type 0
  Spare b = (size ≤ b) × (b < 8 * length bytes) × (bit_of bytes b ≡ true)

  -- what a search from `size` on tells
  pub spare_least : (r : Option ℕ) → MatchOption r ((c : ℕ) → size ≤ c → c < 8 * length bytes → bit_of bytes c ≡ false) (λ b. (size ≤ b) × (b < 8 * length bytes) × (bit_of bytes b ≡ true) × ((c : ℕ) → size ≤ c → c < b → bit_of bytes c ≡ false)) → Least Spare r
  spare_least None none = λ b s. grind (arith, none b)
  spare_least (Some b) (h, l, e, first) = ((h, l, e), λ c k s. grind (arith, first c))

  pub first_length : (length bytes ≡ bytes_for size → ⊥) → First register_turn (BytesWrong size bytes) (WrongLength (length bytes))
  first_length h = (misfit h, λ d wrong before. grind arith)

  pub first_spare : length bytes ≡ bytes_for size → (b : ℕ) → Least Spare (Some b) → First register_turn (BytesWrong size bytes) (SpareBit b)
  first_spare e b least = (spare b least.0.0 (grind (arith, least)), λ d wrong before. grind (arith, least.1, bit_within bytes))

  pub bytes_right : length bytes ≡ bytes_for size → Least Spare None → (e : RegisterFault) → BytesWrong size bytes e → ⊥
  bytes_right e none d w = grind (arith, none, bit_within bytes)
