-- What the bytes of a shelf and a walk over the records tell.
use Rattle.std.proofs.Common.{◌≡◌, ℕ, ◌+◌, ◌<◌, ◌≤◌, cond, ◌&&◌, eqb, List, [], ◌∷◌, length, Bool, not, ltb, Some, None, refl, arith}
use Rattle.std.specs.List.{list_any, position, position_or_len}
use Rattle.std.specs.Option.{MatchOption}
use Rattle.std.proofs.lemmas.List.Sums.{prefix_len-le-length}
use Rattle.std.proofs.lemmas.List.Recursion.{is_position_or_len}
use Rattle.std.proofs.lemmas.Bool.Decides.{nat_tests}
use Rattle.model.specs.Tasks.{Task, Position}
use Rattle.model.specs.Frames.{strictly_inside, code_by, code}
use Rattle.frame.specs.Held.{size_in}
use Rattle.shelves.specs.Shelves.{bit_of, place, covered}
use Rattle.records.specs.declared.shelf.Shelf.{Shelf}
use Rattle.records.specs.Records.{bytes_of, shelves_of, on, covered_in, Framed}

-- ---- shelf by shelf

pub covered_any : (pool : List ℕ) (rs : List Shelf) (f : ℕ) (p : Position) → list_any (λ r. strictly_inside r.frame.mask f && on pool r p) rs ≡ covered_in pool rs f p
covered_any pool [] f p = refl
covered_any pool (r ∷ rs) f p = grind (arith, covered_any pool rs f p)

-- a frame has no shelf exactly where its place is the number of shelves
pub place_told : (pool : List ℕ) (rs : List Shelf) (f : ℕ) → MatchOption (position (λ r. eqb r.frame.mask f) rs) (place (shelves_of pool rs) f ≡ length rs) (λ i. (i < length rs) × (place (shelves_of pool rs) f ≡ i))
place_told pool rs f = told (position_or_len is_frame rs) (prefix_len-le-length (λ r. not (is_frame r)) rs) (is_position_or_len (λ l. place (shelves_of pool l) f) is_frame refl next rs)
  where
    is_frame : Shelf → Bool
    is_frame r = eqb r.frame.mask f

    next : (r : Shelf) (l : List Shelf) → place (shelves_of pool (r ∷ l)) f ≡ cond (is_frame r) 0 (1 + place (shelves_of pool l) f)
    next r l = grind arith

    told : (n : ℕ) → n ≤ length rs → place (shelves_of pool rs) f ≡ n → MatchOption (cond (ltb n (length rs)) (Some n) None) (place (shelves_of pool rs) f ≡ length rs) (λ i. (i < length rs) × (place (shelves_of pool rs) f ≡ i))
    told n h e = grind (arith, nat_tests)

-- ---- by the sizes of a task

module _ (t : Task) (pool : List ℕ) where
  pub on_same : (r : Shelf) (p : Position) → (r.frame.n ≡ t.n) × (size_in r.frame.sizes ≡ t.size) → on pool r p ≡ bit_of (bytes_of pool r) (code t r.frame.mask p)
  on_same r p h = λ i. bit_of (bytes_of pool r) (code_by (h.1 i) r.frame.mask p (h.0 i))

  pub covered_same : (rs : List Shelf) (f : ℕ) (p : Position) → Framed t.n t.size rs → covered_in pool rs f p ≡ covered t (shelves_of pool rs) f p
  covered_same [] f p h = refl
  covered_same (r ∷ rs) f p h = grind (arith, on_same r p h.0, covered_same rs f p h.1)
