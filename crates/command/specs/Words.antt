-- The words of a line, and the numbers that they write.
use Rattle.std.specs.Prelude.{◌≡◌, ℕ, ◌+◌, ◌-◌, ◌*◌, ◌^◌, ◌<◌, cond, ◌&&◌, ◌⊎◌, List, [], ◌∷◌, ◌++◌, length, drop, Some, None, Option, ◌==◌, nat_lt, slice_index}
use Rattle.std.specs.Str.Iter.{LacksByte}
use Rattle.std.specs.Char.{is_whitespace, is_not_whitespace}
use Rattle.std.specs.Str.{NoCharPasses, EmptyOrStartsWithPassing, all_ascii_digits}

-- ---- words

-- bs is blanks, the word w, and rest, which is empty or begins with a blank
pub record FirstWord (bs w rest : List ℕ) : Type 0 where
  pub gap : List ℕ
  pub cut : bs ≡ gap ++ (w ++ rest)
  pub some : 0 < length w
  pub blank : NoCharPasses is_not_whitespace gap
  pub solid : NoCharPasses is_whitespace w
  pub ends : (more : List ℕ) × EmptyOrStartsWithPassing is_whitespace rest more

-- the words of bs are ws
abbrev pub Words : List ℕ → List (List ℕ) → Type 0
Words bs [] = NoCharPasses is_not_whitespace bs
Words bs (w ∷ ws) = (rest : List ℕ) × FirstWord bs w rest × Words rest ws

-- text is what the line has before its comment, which begins with '#'
abbrev pub BeforeComment : List ℕ → List ℕ → Type 0
BeforeComment line text = LacksByte 35 text × ((line ≡ text) ⊎ ((rest : List ℕ) × (line ≡ text ++ (35 ∷ rest))))

-- ---- numbers

-- the number that digits write, of which the first to come count for n
abbrev pub read_on : ℕ → List ℕ → ℕ
read_on n [] = n
read_on n (c ∷ cs) = read_on (10 * n + (c - 48)) cs

-- the number that a text of digits writes, if it has so many bits
abbrev pub fitting : ℕ → List ℕ → Option ℕ
fitting bits ds = cond (nat_lt 0 (length ds) && (all_ascii_digits ds && nat_lt (read_on 0 ds) (2 ^ bits))) (Some (read_on 0 ds)) None

-- the number that a word writes; a '+' may stand before its digits
abbrev pub numeral : ℕ → List ℕ → Option ℕ
numeral bits w = fitting bits (drop (cond (slice_index w 0 == 43) 1 0) w)

abbrev pub before : Option ℕ → Option (List ℕ) → Option (List ℕ)
before None xs = None
before (Some x) None = None
before (Some x) (Some xs) = Some (x ∷ xs)

-- the numbers that the words write, if each of them writes one
abbrev pub numerals : ℕ → List (List ℕ) → Option (List ℕ)
numerals bits [] = Some []
numerals bits (w ∷ ws) = before (numeral bits w) (numerals bits ws)
