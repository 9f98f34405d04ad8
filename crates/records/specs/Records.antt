-- What the records and the pool hold.
use Rattle.std.specs.Prelude.{◌≡◌, ℕ, Bool, false, ◌&&◌, ◌||◌, List, [], ◌∷◌, map, take, drop}
use Rattle.std.specs.List.{AllByRecursion}
use Rattle.model.specs.Tasks.{Position}
use Rattle.model.specs.Frames.{strictly_inside}
use Rattle.frame.specs.Held.{size_in}
use Rattle.frame.specs.Codes.{code_of}
use Rattle.shelves.specs.Shelves as shelves
use Rattle.shelves.specs.Shelves.{bit_of, bytes_for}
use Rattle.records.specs.declared.shelf.Shelf.{Shelf}

-- ---- what a record and its bytes mean

-- the bytes of a shelf
abbrev pub bytes_of : List ℕ → Shelf → List ℕ
bytes_of pool r = take (bytes_for r.frame.size) (drop r.at pool)

abbrev pub shelf_of : List ℕ → Shelf → shelves.Shelf
shelf_of pool r = record { frame = r.frame.mask; bits = bit_of (bytes_of pool r) }

abbrev pub shelves_of : List ℕ → List Shelf → List shelves.Shelf
shelves_of pool rs = map (shelf_of pool) rs

-- ---- positions on shelves

-- the position is on the shelf, by the sizes of the shelf's own frame
abbrev pub on : List ℕ → Shelf → Position → Bool
on pool r p = bit_of (bytes_of pool r) (code_of r.frame p)

-- the position is on a shelf whose frame lies strictly inside f
abbrev pub covered_in : List ℕ → List Shelf → ℕ → Position → Bool
covered_in pool [] f p = false
covered_in pool (r ∷ rs) f p = (strictly_inside r.frame.mask f && on pool r p) || covered_in pool rs f p

-- the frames are frames of a task with these variables and sizes
abbrev pub Framed : ℕ → (ℕ → ℕ) → List Shelf → Type 0
Framed n size rs = AllByRecursion (λ r. (r.frame.n ≡ n) × (size_in r.frame.sizes ≡ size)) rs
