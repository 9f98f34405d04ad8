-- The number, layer and place of each fault of the register, and the order in which they are tried.
use Rattle.std.specs.Prelude.{ℕ, List, [], ◌∷◌}
use Rattle.task.specs.declared.refusal.Refusal.{Refusal}
use Rattle.task.specs.declared.refusal.Layer.TheVariants.{Register}
use Rattle.task.specs.Faults.{plan_refusal, plan_turn}
use Rattle.frame.specs.Faults.{frame_refusal, frame_turn}
use Rattle.checks.specs.declared.fault.RegisterFault.{RegisterFault}
use Rattle.checks.specs.declared.fault.RegisterFault.TheVariants.{Frame, WrongLength, SpareBit, Plan, BadMemory, OtherCount, OtherSize, MeetsGoal, LeadsOut, NoRecord, PoolTooShort}

abbrev pub register_refusal : RegisterFault → Refusal
register_refusal (Frame e) = frame_refusal e
register_refusal (WrongLength bytes) = record { number = 12; layer = Register; place = (bytes, 0) }
register_refusal (SpareBit bit) = record { number = 13; layer = Register; place = (bit, 0) }
register_refusal (Plan e) = plan_refusal e
register_refusal (BadMemory l) = record { number = 19; layer = Register; place = (l, 0) }
register_refusal OtherCount = record { number = 22; layer = Register; place = (32, 0) }
register_refusal (OtherSize v) = record { number = 22; layer = Register; place = (v, 0) }
register_refusal (MeetsGoal c) = record { number = 23; layer = Register; place = (c, 0) }
register_refusal (LeadsOut c o) = record { number = 24; layer = Register; place = (c, o) }
register_refusal (NoRecord records) = record { number = 25; layer = Register; place = (records, 0) }
register_refusal (PoolTooShort needed) = record { number = 26; layer = Register; place = (needed, 0) }

-- When a fault is tried, compared at the first difference: by numbers, but 23 and 24 code by code; where a number has two cases the
-- first case first; and from the lowest place on.
abbrev pub register_turn : RegisterFault → List ℕ
register_turn (Frame e) = frame_turn e
register_turn (WrongLength bytes) = 12 ∷ 0 ∷ bytes ∷ []
register_turn (SpareBit bit) = 13 ∷ 0 ∷ bit ∷ []
register_turn (Plan e) = plan_turn e
register_turn (BadMemory l) = 19 ∷ 0 ∷ l ∷ []
register_turn OtherCount = 22 ∷ 0 ∷ 0 ∷ []
register_turn (OtherSize v) = 22 ∷ 1 ∷ v ∷ []
register_turn (MeetsGoal c) = 23 ∷ c ∷ 0 ∷ 0 ∷ []
register_turn (LeadsOut c o) = 23 ∷ c ∷ 1 ∷ o ∷ []
register_turn (NoRecord records) = 25 ∷ 0 ∷ records ∷ []
register_turn (PoolTooShort needed) = 26 ∷ 0 ∷ needed ∷ []
