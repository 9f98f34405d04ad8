-- What is wrong with words that are to be a card, and what the reader answers.
use Rattle.std.specs.Prelude.{◌≡◌, ℕ, ◌+◌, ◌*◌, ◌<◌, ◌≤◌, ◌⊎◌, List, length, Some, None, Ok, Err, Result, ◌≢◌}
use Rattle.model.specs.Orders.{First, Least}
use Rattle.model.specs.Card.{word, variables, operators, records, size_at, start_at, goal_at, record_at, variable_of, value_of, next_at, next_of, card_length, IsRecord, IsCard, WholeChain}
use Rattle.layout.specs.declared.fault.CardFault.{CardFault}
use Rattle.layout.specs.declared.fault.CardFault.TheVariants.{TooShort, OtherVersion, BadCount, WrongLength, BadSize, BadStart, BadLink, BadRecord, BadOrder}
use Rattle.layout.specs.Faults.{number, card_turn}

-- the word i is a head and above the number of records; the heads stand side by side, the goal's first
abbrev pub WrongHead : List ℕ → ℕ → Type 0
WrongHead ws i = (goal_at ws ≤ i) × (i ≤ goal_at ws + 2 * operators ws) × (records ws < word ws i)

-- the word i is a record's next and above the number of records
abbrev pub WrongNext : List ℕ → ℕ → Type 0
WrongNext ws i = (k : ℕ) × IsRecord ws k × (i ≡ next_at ws k) × (records ws < word ws i)

-- the fault is there, whether or not another one is tried before it
abbrev pub CardWrong : List ℕ → CardFault → Type 0
CardWrong ws (TooShort given) = (given ≡ length ws) × (length ws < 4)
CardWrong ws OtherVersion = word ws 0 ≡ 1 → ⊥
CardWrong ws (BadCount i) =
    ((i ≡ 1) × ((1 ≤ variables ws) × (variables ws ≤ 32) → ⊥)) ⊎ (((i ≡ 2) × (1024 < operators ws)) ⊎ ((i ≡ 3) × (8192 < records ws)))
CardWrong ws (WrongLength given) = (given ≡ length ws) × (length ws ≢ card_length ws)
CardWrong ws (BadSize i) = (v : ℕ) × (v < variables ws) × (i ≡ size_at ws v) × ((1 ≤ word ws i) × (word ws i ≤ 64) → ⊥)
CardWrong ws (BadStart i) = (v : ℕ) × (v < variables ws) × (i ≡ start_at ws v) × (word ws (size_at ws v) ≤ word ws i)
CardWrong ws (BadLink i) = WrongHead ws i ⊎ WrongNext ws i
-- a value is looked at only where its variable is one of the task's
CardWrong ws (BadRecord i) =
    (k : ℕ) × IsRecord ws k × (((i ≡ record_at ws k) × (variables ws ≤ variable_of ws k)) ⊎ ((i ≡ record_at ws k + 1) × (variable_of ws k < variables ws) × (word ws (size_at ws (variable_of ws k)) ≤ value_of ws k)))
CardWrong ws (BadOrder i) = (k : ℕ) × IsRecord ws k × (i ≡ next_at ws k) × (1 ≤ next_of ws k) × (variable_of ws (next_of ws k) ≤ variable_of ws k)

-- no fault with a number below k is there
abbrev pub NoneBelow : List ℕ → ℕ → Type 0
NoneBelow ws k = (e : CardFault) → number e < k → CardWrong ws e → ⊥

-- what a test answers: what it looks for is at no word, or e is the fault at the lowest word where it is
abbrev pub TriesOf : (ℕ → Type 0) → (ℕ → CardFault) → {A : Type 0} → Result A CardFault → Type 0
TriesOf Wrong fault (Ok _) = Least Wrong None
TriesOf Wrong fault (Err e) = (i : ℕ) × (e ≡ fault i) × Least Wrong (Some i)

-- what the test for one kind of fault answers
abbrev pub Tries : List ℕ → (ℕ → CardFault) → {A : Type 0} → Result A CardFault → Type 0
Tries ws fault r = TriesOf (λ i. CardWrong ws (fault i)) fault r

-- what the reader answers: the words are accepted exactly where no fault is there, and else declined for the one that is tried first
abbrev pub Reads : {A : Type 0} → List ℕ → Result A CardFault → Type 0
Reads ws (Ok _) = ((e : CardFault) → CardWrong ws e → ⊥) × IsCard ws × ((k : ℕ) → k ≤ records ws → WholeChain ws k)
Reads ws (Err e) = First card_turn (CardWrong ws) e
