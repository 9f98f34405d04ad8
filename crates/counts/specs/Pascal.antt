-- Pascal's rule over a flat table of 33 rows of 33 numbers, as a test that computes.
use Rattle.std.specs.Prelude.{ℕ, suc, ◌+◌, ◌%◌, Bool, true, false, cond, ◌&&◌, List, [], ◌∷◌, take, drop, ◌==◌}

-- row 0 has 1 in column 0, and else 0
abbrev pub first_row : ℕ → List ℕ → Bool
first_row k [] = true
first_row k (x ∷ xs) = x == cond (k == 0) 1 0 && first_row (suc k) xs

-- every other entry, of which the next has the place k, is 1 in column 0, and else the sum of the two that `above` begins with
abbrev pub other_rows : ℕ → List ℕ → List ℕ → Bool
other_rows k [] above = true
other_rows k (x ∷ xs) [] = false
other_rows k (x ∷ xs) (y ∷ []) = false
other_rows k (x ∷ xs) (y ∷ z ∷ above) = x == cond (k % 33 == 0) 1 (y + z) && other_rows (suc k) xs (z ∷ above)

abbrev pub pascal : List ℕ → Bool
pascal table = first_row 0 (take 33 table) && other_rows 33 (drop 33 table) (0 ∷ table)
