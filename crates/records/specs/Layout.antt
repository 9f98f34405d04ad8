-- How shelves lie in memory: the bytes of each right after those of the one before it. Only the first so many records are taken.
use Rattle.std.specs.Prelude.{◌≡◌, ℕ, ◌+◌, ◌<◌, true, List, [], ◌∷◌, map, get_or, take, slice_index_or}
use Rattle.shelves.specs.Shelves.{bit_of, bytes_for}
use Rattle.records.specs.declared.shelf.Shelf.{Shelf}
use Rattle.records.specs.Records.{bytes_of}

-- the bytes that shelves take
abbrev pub laid : List Shelf → ℕ
laid [] = 0
laid (r ∷ rs) = bytes_for r.frame.size + laid rs

abbrev pub Placed : List Shelf → ℕ → Type 0
Placed rs n = (i : ℕ) (d : Shelf) → i < n → (get_or rs i d).at ≡ laid (take i rs)

-- no two have one frame
abbrev pub Distinct : List Shelf → ℕ → Type 0
Distinct rs n = (i j : ℕ) (d : Shelf) → (i < j) × (j < n) × ((get_or rs i d).frame.mask ≡ (get_or rs j d).frame.mask) → ⊥

-- each frame is one of a task with so many variables
abbrev pub Counted : ℕ → List Shelf → ℕ → Type 0
Counted n rs k = (i : ℕ) (d : Shelf) → i < k → (get_or rs i d).frame.n ≡ n

-- and of these sizes
abbrev pub Sized : List ℕ → List Shelf → ℕ → Type 0
Sized sizes rs k = (i : ℕ) → i < k → slice_index_or (map (λ r. r.frame.sizes) rs) i [] ≡ sizes

-- a bit that is set stands for a code of the frame
abbrev pub NoSpare : List ℕ → List Shelf → ℕ → Type 0
NoSpare pool rs n = (i c : ℕ) (d : Shelf) → (i < n) × (bit_of (bytes_of pool (slice_index_or rs i d)) c ≡ true) → c < (get_or rs i d).frame.size
