-- A verdict names a shelf that is there.
use Rattle.std.specs.Prelude.{ℕ, Bool, true, nat_lt}
use Rattle.shelves.specs.declared.verdict.Verdict.{Verdict}
use Rattle.shelves.specs.declared.verdict.Verdict.TheVariants as verdict

abbrev pub told : Verdict → ℕ → Bool
told verdict.Open count = true
told (verdict.Hopeless i) count = nat_lt i count
told (verdict.Feasible l) count = true
