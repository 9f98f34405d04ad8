-- A card: a task written as a run of 16-bit words.
--   word 0: version 1; word 1: n, the variables; word 2: m, the operators; word 3: r, the records
--   n sizes, n start values, the head of the goal's chain, and for each operator the heads of its needed and of its made values
--   records 1 to r, three words each: variable, value, next
-- A head and a next are numbers of records, and 0 ends a chain. Chains may share records, and records may be unused.
use Rattle.std.specs.Prelude.{◌≡◌, ℕ, zero, suc, ◌+◌, ◌-◌, ◌*◌, ◌<◌, ◌≤◌, cond, List, [], ◌∷◌, length, Some, None, Option, ◌==◌, nat_lt, slice_index}
use Rattle.std.specs.List.{AllByRecursion}
use Rattle.model.specs.Tasks.{Task}

abbrev pub word : List ℕ → ℕ → ℕ
word ws i = slice_index ws i

-- ---- where each word stands

abbrev pub variables : List ℕ → ℕ
variables ws = word ws 1

abbrev pub operators : List ℕ → ℕ
operators ws = word ws 2

abbrev pub records : List ℕ → ℕ
records ws = word ws 3

abbrev pub size_at : List ℕ → ℕ → ℕ
size_at ws v = 4 + v

abbrev pub start_at : List ℕ → ℕ → ℕ
start_at ws v = 4 + variables ws + v

-- the goal's head; the heads of operator o follow at needed_at and made_at
abbrev pub goal_at : List ℕ → ℕ
goal_at ws = 4 + 2 * variables ws

abbrev pub needed_at : List ℕ → ℕ → ℕ
needed_at ws o = goal_at ws + 1 + 2 * o

abbrev pub made_at : List ℕ → ℕ → ℕ
made_at ws o = goal_at ws + 2 + 2 * o

-- record k's variable; its value and its next follow
abbrev pub record_at : List ℕ → ℕ → ℕ
record_at ws k = goal_at ws + 1 + 2 * operators ws + 3 * (k - 1)

abbrev pub variable_of : List ℕ → ℕ → ℕ
variable_of ws k = word ws (record_at ws k)

abbrev pub value_of : List ℕ → ℕ → ℕ
value_of ws k = word ws (record_at ws k + 1)

abbrev pub next_at : List ℕ → ℕ → ℕ
next_at ws k = record_at ws k + 2

abbrev pub next_of : List ℕ → ℕ → ℕ
next_of ws k = word ws (next_at ws k)

-- the length that the counts ask for
abbrev pub card_length : List ℕ → ℕ
card_length ws = 4 + 2 * variables ws + 1 + 2 * operators ws + 3 * records ws

-- ---- chains

-- the records of the chain at k: its first record, and then the chain at that record's next
abbrev pub Chain : List ℕ → ℕ → List ℕ → Type 0
Chain ws k [] = k ≡ 0
Chain ws k (j ∷ js) = (1 ≤ k) × (j ≡ k) × Chain ws (next_of ws k) js

-- the first so many records of the chain at k
abbrev pub chain : ℕ → List ℕ → ℕ → List ℕ
chain zero ws k = []
chain (suc i) ws k = cond (k == 0) [] (k ∷ chain i ws (next_of ws k))

-- the value of the first of the records that is of the variable v
abbrev pub value_in : List ℕ → List ℕ → ℕ → Option ℕ
value_in ws [] v = None
value_in ws (k ∷ ks) v = cond (variable_of ws k == v) (Some (value_of ws k)) (value_in ws ks v)

-- the value of v in the chain whose head is the word i. A card's variables ascend along a chain, so it has at most n records.
abbrev pub chained : List ℕ → ℕ → ℕ → Option ℕ
chained ws i v = value_in ws (chain (variables ws) ws (word ws i)) v

-- ---- the task

abbrev pub card : List ℕ → Task
card ws = record {
  n = variables ws;
  m = operators ws;
  size = λ v. cond (nat_lt v (variables ws)) (word ws (size_at ws v)) 1;
  needed = λ o v. cond (nat_lt o (operators ws)) (chained ws (needed_at ws o) v) None;
  made = λ o v. cond (nat_lt o (operators ws)) (chained ws (made_at ws o) v) None;
  start = λ v. cond (nat_lt v (variables ws)) (word ws (start_at ws v)) 0;
  goal = λ v. chained ws (goal_at ws) v;
}

-- ---- when words are a card

abbrev pub Version : List ℕ → Type 0
Version ws = word ws 0 ≡ 1

abbrev pub Counts : List ℕ → Type 0
Counts ws = (1 ≤ variables ws) × (variables ws ≤ 32) × (operators ws ≤ 1024) × (records ws ≤ 8192)

abbrev pub Length : List ℕ → Type 0
Length ws = length ws ≡ card_length ws

abbrev pub Sizes : List ℕ → Type 0
Sizes ws = (v : ℕ) → v < variables ws → (1 ≤ word ws (size_at ws v)) × (word ws (size_at ws v) ≤ 64)

abbrev pub Starts : List ℕ → Type 0
Starts ws = (v : ℕ) → v < variables ws → word ws (start_at ws v) < word ws (size_at ws v)

-- the heads stand side by side, the goal's first
abbrev pub Heads : List ℕ → Type 0
Heads ws = (i : ℕ) → i ≤ 2 * operators ws → word ws (goal_at ws + i) ≤ records ws

abbrev pub IsRecord : List ℕ → ℕ → Type 0
IsRecord ws k = (1 ≤ k) × (k ≤ records ws)

abbrev pub Nexts : List ℕ → Type 0
Nexts ws = (k : ℕ) → IsRecord ws k → next_of ws k ≤ records ws

abbrev pub Records : List ℕ → Type 0
Records ws = (k : ℕ) → IsRecord ws k → (variable_of ws k < variables ws) × (value_of ws k < word ws (size_at ws (variable_of ws k)))

-- a record's variable is below that of its next
abbrev pub Ascends : List ℕ → Type 0
Ascends ws = (k : ℕ) → IsRecord ws k → 1 ≤ next_of ws k → variable_of ws k < variable_of ws (next_of ws k)

-- nothing is wrong with the words
pub record IsCard (ws : List ℕ) : Type 0 where
  pub version : Version ws
  pub counts : Counts ws
  pub long : Length ws
  pub sizes : Sizes ws
  pub starts : Starts ws
  pub heads : Heads ws
  pub nexts : Nexts ws
  pub records : Records ws
  pub ascends : Ascends ws

-- along the records each variable is below all later ones, so that no record comes twice
abbrev pub Rising : List ℕ → List ℕ → Type 0
Rising ws [] = Unit {0}
Rising ws (k ∷ ks) = AllByRecursion (λ j. variable_of ws k < variable_of ws j) ks × Rising ws ks

-- the first n records of the chain at k are all of it, and their variables rise
abbrev pub WholeChain : List ℕ → ℕ → Type 0
WholeChain ws k = Chain ws k (chain (variables ws) ws k) × (length (chain (variables ws) ws k) ≤ variables ws) × Rising ws (chain (variables ws) ws k)
