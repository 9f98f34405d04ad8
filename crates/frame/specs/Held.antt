-- What a frame in memory holds.
use Rattle.std.specs.Prelude.{◌≡◌, ℕ, suc, ◌<◌, ◌≤◌, cond, List, nat_lt, slice_index}
use Rattle.model.specs.Frames.{width_by}

-- the sizes that a list of 32 gives: its entries, and 1 past them
abbrev pub size_in : List ℕ → ℕ → ℕ
size_in sizes v = cond (nat_lt v 32) (slice_index sizes v) 1

-- each size is 1 to 64
abbrev pub Sized : List ℕ → Type 0
Sized sizes = (v : ℕ) → v < 32 → (1 ≤ slice_index sizes v) × (slice_index sizes v ≤ 64)

-- the stride of each variable below n is the product of the sizes of the lower variables
abbrev pub Strided : List ℕ → ℕ → ℕ → List ℕ → Type 0
Strided sizes mask n strides = (v : ℕ) → v < n → slice_index strides v ≡ width_by (size_in sizes) mask v

-- the strides of the variables from n on are 1: nothing codes by them, and a frame is written whole
abbrev pub OnesFrom : ℕ → List ℕ → Type 0
OnesFrom n strides = (v : ℕ) → n ≤ v → v < 32 → slice_index strides v ≡ 1

-- the product is within the limit up to each variable below n
abbrev pub Small : List ℕ → ℕ → ℕ → Type 0
Small sizes mask n = (v : ℕ) → v < n → width_by (size_in sizes) mask (suc v) ≤ 16384
