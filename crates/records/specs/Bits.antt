-- How far bytes reach.
use Rattle.std.specs.Prelude.{ℕ, ◌*◌, min, List, length}

-- the codes below `size` for which the bytes have a bit
abbrev pub reach : List ℕ → ℕ → ℕ
reach bytes size = min size (8 * length bytes)
