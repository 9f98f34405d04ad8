use Rattle.std.proofs.Common.{◌≡◌, ℕ, ◌<◌, ◌≤◌, true, Some, None, Option, rules}
use Rattle.std.specs.Option.{MatchOption}
use Rattle.std.proofs.lemmas.Iterator.{first_from_Range}
use Rattle.model.specs.LeaveOut.{has}
use Rattle.model.specs.Orders.{Least}
use Rattle.model.proofs.Masks.{has_below}
use Rattle.task.proofs.mask.stray_variable.Goals as goal

-- where P holds of nothing from `end` on, the first from n below `end` is the least of all from n
least_from : (P : ℕ → Type 0) (n end : ℕ) → ((v : ℕ) → P v → v < end) → (r : Option ℕ)
    → MatchOption r ((v : ℕ) → n ≤ v → v < end → P v → ⊥) (λ i. (n ≤ i) × (i < end) × P i × ((v : ℕ) → n ≤ v → v < i → P v → ⊥)) → Least (λ v. (n ≤ v) × P v) r
least_from P n end low None h = λ v w. h v w.0 (low v w.1) w.1
least_from P n end low (Some i) h = ((h.0, h.2), λ v l w. h.3 v w.0 l w.1)

pub returns : goal.returns
returns c =
    let m = c.args.mask in
    least_from (λ v. has m v ≡ true) c.args.n 32 (λ v h. has_below m 32 v c.ranges.mask.fits h) c.find.result
    (first_from_Range _ _ _ _ (λ v. has m v ≡ true) (λ v. has m v ≡ true → ⊥) c.find.ensures.ran (λ x q k. search rules) (λ x q k. search rules))
