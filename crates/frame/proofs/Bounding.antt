-- How large a code is.
use Rattle.std.proofs.Common.{ℕ, zero, suc, ◌*◌, ◌<◌, ◌≤◌, Bool, true, false, cond, arith}
use Rattle.std.proofs.lemmas.Nat.{mul-le}
use Rattle.model.specs.Tasks.{Position}
use Rattle.model.specs.LeaveOut.{has}
use Rattle.model.specs.Frames.{width_by, code_by}

module _ (size : ℕ → ℕ) (mask : ℕ) (p : Position) where
  digit : (b : Bool) (x : ℕ) → x ≤ 1073741824 → cond b x 0 ≤ 1073741824
  digit true x h = h
  digit false x h = omega arith

  pub code_small : (n : ℕ) → ((v : ℕ) → p v ≤ 65535) → ((v : ℕ) → v < n → width_by size mask v ≤ 16384) → code_by size mask p n ≤ n * 1073741824
  code_small zero h w = omega arith
  code_small (suc n) h w = omega (arith, code_small n h (λ v l. w v (omega arith)), digit (has mask n) (p n * width_by size mask n) (omega (arith, mul-le (p n) (width_by size mask n) 65535 16384 (h n) (w n (omega arith)))))
