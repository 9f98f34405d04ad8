-- Operators and goals by the variables of a frame alone.
use Rattle.std.proofs.Common.{◌≡◌, ℕ, zero, suc, ◌<◌, ◌≤◌, Bool, true, false, Decides, cond, List, Some, None, Option, unwrap_or, refl, ⊎_elim, arith}
use Rattle.std.specs.Option.{MatchOption}
use Rattle.std.specs.Fn.{Called, Mut}
use Rattle.std.specs.Iterator.{YieldsThen}
use Rattle.std.specs.List.{FoldsTo}
use Rattle.std.specs.declared.ops.Range.{Range}
use Rattle.std.proofs.iter.Yields.{nat_range_steps}
use Rattle.std.proofs.lemmas.Bool.{cases_lt}
use Rattle.model.specs.Tasks.{Position, Holds, put}
use Rattle.model.specs.LeaveOut.{has}
use Rattle.model.specs.Frames.{code_by, values_by}
use Rattle.model.proofs.Masks.{has_beyond}
use Rattle.frame.specs.declared.frame.Frame.{Frame}
use Rattle.frame.specs.Held.{size_in}
use Rattle.frame.proofs.Asking.{all_decided}

module _ (f : Frame) where
  -- nothing is wanted of a variable past the frame's
  past : (want : ℕ → Option ℕ) (p : Position) (v : ℕ) → f.n ≤ v → Holds (cond (has f.mask v) (want v) None) (p v)
  past want p v l = grind (arith, has_beyond f.mask f.n v f.legal)

  -- what `all` answers over the frame's variables of what is wanted
  pub all_hold : {F : Type 0} {g : Mut F (ℕ × Unit {0}) Bool} {u : Range ℕ} {k : F} (want : ℕ → Option ℕ) (p : Position) (r : Bool)
      → (xs : List ℕ) × (o : Option ℕ) × (j : F) × YieldsThen nat_range_steps (record { start = 0; end = f.n }) xs o u × FoldsTo (λ p x q. Called g p (x, tt) true q) k xs j × MatchOption o (r ≡ true) (λ x. (r ≡ false) × ((h : F) × Called g j (x, tt) false h))
      → ((v : ℕ) (b : Bool) (q : F) → Called g k (v, tt) b q → (q ≡ k) × Decides b (Holds (cond (has f.mask v) (want v) None) (p v))) → Decides r ((v : ℕ) → Holds (cond (has f.mask v) (want v) None) (p v))
  all_hold want p r ran each =
      let d = all_decided (λ v. Holds (cond (has f.mask v) (want v) None) (p v)) f.n r ran each in
      (λ e v. ⊎_elim (d.0 e v) (past want p v) (cases_lt v f.n), λ h. d.1 (λ v l. h v))

  -- a variable past the frame's has the value 0
  pub values_past : (c v : ℕ) → f.n ≤ v → values_by (size_in f.sizes) f.mask c v ≡ 0
  values_past c v l = grind (arith, has_beyond f.mask f.n v f.legal)

-- a code depends on the values of the variables that it counts alone
pub code_same : (size : ℕ → ℕ) (mask : ℕ) (p q : Position) (n : ℕ) → ((v : ℕ) → v < n → p v ≡ q v) → code_by size mask p n ≡ code_by size mask q n
code_same size mask p q zero e = refl
code_same size mask p q (suc n) e = grind (arith, e n, code_same size mask p q n)

pub put_value : (w : Option ℕ) (x : ℕ) → unwrap_or w x ≡ put w x
put_value None x = refl
put_value (Some y) x = refl
