-- A table that passes the test has the number of subsets at each entry.
use Rattle.std.proofs.Common.{◌≡◌, ℕ, zero, suc, ◌+◌, ◌*◌, ◌%◌, ◌<◌, ◌≤◌, true, cond, eqb, List, [], ◌∷◌, length, get_or, take, drop, sym, ◌∙◌, arith, length-append}
use lib.ListN.{length-map}
use Rattle.std.proofs.lemmas.List.{get_or-take, get_or-drop, length-take-le, length-drop}
use Rattle.std.proofs.lemmas.Bool.Decides.{nat_tests}
use Rattle.std.proofs.lemmas.Bool.{and_parts}
use Rattle.model.specs.Frames.{choose}
use Rattle.counts.specs.Pascal.{first_row, other_rows, pascal}

-- the sets with the first thing, and those without
pub choose_more : (a k : ℕ) → length (choose (suc a) (suc k)) ≡ length (choose a k) + length (choose a (suc k))
choose_more a k = simp (length-append, length-map)

first_entry : (xs : List ℕ) (k i : ℕ) → first_row k xs ≡ true → i < length xs → get_or xs i 0 ≡ cond (eqb (k + i) 0) 1 0
first_entry [] k i t h = absurd (omega arith)
first_entry (x ∷ xs) k zero t h = grind (arith, nat_tests)
first_entry (x ∷ xs) k (suc i) t h = grind (arith, nat_tests, first_entry xs (suc k) i)

other_entry : (xs above : List ℕ) (k i : ℕ) → other_rows k xs above ≡ true → i < length xs → get_or xs i 0 ≡ cond (eqb ((k + i) % 33) 0) 1 (get_or above i 0 + get_or above (i + 1) 0)
other_entry [] above k i t h = absurd (omega arith)
other_entry (x ∷ xs) [] k i t h = absurd cc
other_entry (x ∷ xs) (y ∷ []) k i t h = absurd cc
other_entry (x ∷ xs) (y ∷ z ∷ above) k zero t h = grind (arith, nat_tests)
other_entry (x ∷ xs) (y ∷ z ∷ above) k (suc i) t h =
    let q : suc (i + 1) ≡ suc i + 1 = omega arith in
    grind (arith, nat_tests, other_entry xs (z ∷ above) (suc k) i)

module _ (table : List ℕ) (long : length table ≡ 1089) (t : pascal table ≡ true) where
  parts : (first_row 0 (take 33 table) ≡ true) × (other_rows 33 (drop 33 table) (0 ∷ table) ≡ true)
  parts = and_parts (first_row 0 (take 33 table)) (other_rows 33 (drop 33 table) (0 ∷ table)) t

  row_zero : (b : ℕ) → b ≤ 32 → get_or table b 0 ≡ cond (eqb b 0) 1 0
  row_zero b h = grind (arith, get_or-take 33 table b 0, first_entry (take 33 table) 0 b parts.0, length-take-le 33 table)

  later : (i : ℕ) → i < 1056 → get_or table (33 + i) 0 ≡ cond (eqb ((33 + i) % 33) 0) 1 (get_or (0 ∷ table) i 0 + get_or (0 ∷ table) (i + 1) 0)
  later i h = sym (get_or-drop 33 table i 0) ∙ other_entry (drop 33 table) (0 ∷ table) 33 i parts.1 (omega (arith, length-drop 33 table))

  column_zero : (a : ℕ) → a ≤ 32 → get_or table (a * 33 + 0) 0 ≡ 1
  column_zero zero h = row_zero 0 (omega arith)
  column_zero (suc a) h = grind (arith, nat_tests, later (a * 33))

  inner : (a b : ℕ) → suc a ≤ 32 → suc b ≤ 32 → get_or table (suc a * 33 + suc b) 0 ≡ get_or table (a * 33 + b) 0 + get_or table (a * 33 + suc b) 0
  inner a b h g = grind (arith, nat_tests, later (a * 33 + suc b))

  pub entry_counts : (a b : ℕ) → a ≤ 32 → b ≤ 32 → get_or table (a * 33 + b) 0 ≡ length (choose a b)
  entry_counts a zero h g = column_zero a h
  entry_counts zero (suc b) h g = grind (arith, nat_tests, row_zero (suc b))
  entry_counts (suc a) (suc b) h g = grind (arith, inner a b, entry_counts a b, entry_counts a (suc b), choose_more a b)
