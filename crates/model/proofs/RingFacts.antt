-- The ring keeps the limits of a task.
use Rattle.std.proofs.Common.{ℕ, ◌≤◌, rules}
use Rattle.model.specs.Tasks.{Lawful}
use Rattle.model.specs.Ring.{ring}

pub ring_lawful : (n : ℕ) → 1 ≤ n → n ≤ 32 → Lawful (ring n)
ring_lawful n low high = search rules
