-- Shelves. A shelf has a frame (a set of variables) and a bit for each code of it; a position is on the shelf when its code's bit is set.
use Rattle.std.specs.Prelude.{◌≡◌, ℕ, zero, suc, ◌+◌, ◌/◌, ◌%◌, ◌≤◌, Bool, false, cond, ◌&&◌, ◌||◌, T, List, [], ◌∷◌, Some, None, Option, ◌==◌, ◌≢◌, slice_index}
use Rattle.model.specs.Tasks.{Task, Position}
use Rattle.model.specs.LeaveOut.{has}
use Rattle.model.specs.Frames.{strictly_inside, code, frame_size}

pub record Shelf : Type 0 where
  pub frame : ℕ
  pub bits : ℕ → Bool

-- the position is on some shelf
abbrev pub held : Task → List Shelf → Position → Bool
held t [] p = false
held t (s ∷ ss) p = s.bits (code t s.frame p) || held t ss p

-- the position is on the shelf with the number i
abbrev pub held_at : Task → List Shelf → ℕ → Position → Bool
held_at t [] i p = false
held_at t (s ∷ ss) zero p = s.bits (code t s.frame p)
held_at t (s ∷ ss) (suc i) p = held_at t ss i p

-- the position is on a shelf whose frame lies strictly inside f
abbrev pub covered : Task → List Shelf → ℕ → Position → Bool
covered t [] f p = false
covered t (s ∷ ss) f p = (strictly_inside s.frame f && s.bits (code t s.frame p)) || covered t ss f p

-- the number of the earliest shelf that the position is on
abbrev pub Earliest : Task → List Shelf → Position → Option ℕ → Type 0
Earliest t ss p None = T (held t ss p) → ⊥
Earliest t ss p (Some i) = T (held_at t ss i p) × ((j : ℕ) → T (held_at t ss j p) → i ≤ j)

-- ---- one shelf for a frame

abbrev pub has_shelf : List Shelf → ℕ → Bool
has_shelf [] f = false
has_shelf (s ∷ ss) f = s.frame == f || has_shelf ss f

-- the number of f's shelf, or how many shelves there are where f has none
abbrev pub place : List Shelf → ℕ → ℕ
place [] f = 0
place (s ∷ ss) f = cond (s.frame == f) 0 (suc (place ss f))

-- f's shelf has the code
abbrev pub shelved : List Shelf → ℕ → ℕ → Bool
shelved [] f c = false
shelved (s ∷ ss) f c = cond (s.frame == f) (s.bits c) (shelved ss f c)

-- of each shelf
abbrev pub Each : (Shelf → Type 0) → List Shelf → Type 0
Each P [] = Unit {0}
Each P (s ∷ ss) = P s × Each P ss

-- no two shelves have one frame
abbrev pub Apart : List Shelf → Type 0
Apart [] = Unit {0}
Apart (s ∷ ss) = Each (λ r. r.frame ≢ s.frame) ss × Apart ss

-- no shelf loses its number, its frame or a set bit
abbrev pub Grows : List Shelf → List Shelf → Type 0
Grows [] ss' = Unit {0}
Grows (s ∷ ss) [] = ⊥
Grows (s ∷ ss) (s' ∷ ss') = (s'.frame ≡ s.frame) × ((c : ℕ) → T (s.bits c) → T (s'.bits c)) × Grows ss ss'

-- ---- shelves in memory

-- The set that bytes hold: code c is bit c mod 8 of byte c div 8, the lowest bit first.
abbrev pub bit_of : List ℕ → ℕ → Bool
bit_of bytes c = has (slice_index bytes (c / 8)) (c % 8)

-- the bytes that so many bits take
abbrev pub bytes_for : ℕ → ℕ
bytes_for bits = (bits + 7) / 8

-- the bytes that all shelves take
abbrev pub pool_used : Task → List Shelf → ℕ
pool_used t [] = 0
pool_used t (s ∷ ss) = bytes_for (frame_size t s.frame) + pool_used t ss
