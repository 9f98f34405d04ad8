-- Which fault of a card is tried first, and what words without a fault are.
use Rattle.std.proofs.Common.{◌≡◌, ℕ, ◌+◌, ◌≤◌, cond, eqb, List, length, Some, None, Ok, Err, Result, sym, refl, subst, arith}
use Rattle.std.proofs.lemmas.Bool.{cases_eq}
use Rattle.std.specs.Result.{IsErrAnd}
use Rattle.model.specs.Orders.{First, Least}
use Rattle.model.specs.Card.{word, records, size_at, start_at, goal_at, record_at, next_at, card_length, Version, Counts, Length, Sizes, Starts, Heads, Nexts, Records, Ascends, IsCard, WholeChain}
use Rattle.model.proofs.Firsts as firsts
use Rattle.model.proofs.Chains.{chain_whole}
use Rattle.layout.specs.declared.fault.CardFault.{CardFault}
use Rattle.layout.specs.declared.fault.CardFault.TheVariants.{TooShort, OtherVersion, BadCount, WrongLength, BadSize, BadStart, BadLink, BadRecord, BadOrder}
use Rattle.layout.specs.Faults.{number, place, card_turn}
use Rattle.layout.specs.Wrong.{WrongHead, WrongNext, CardWrong, NoneBelow, TriesOf, Tries, Reads}

-- ---- the fault with a number at a place

abbrev fault : ℕ → ℕ → CardFault
fault k i =
    cond (eqb k 1) (TooShort i)
    (cond (eqb k 2) OtherVersion
    (cond (eqb k 3) (BadCount i)
    (cond (eqb k 4) (WrongLength i)
    (cond (eqb k 5) (BadSize i)
    (cond (eqb k 6) (BadStart i)
    (cond (eqb k 7) (BadLink i)
    (cond (eqb k 8) (BadRecord i)
    (BadOrder i))))))))

back : (e : CardFault) → fault (number e) (place e) ≡ e
back e = grind arith

up_to_nine : (e : CardFault) → (1 ≤ number e) × (number e ≤ 9)
up_to_nine e = grind arith

-- ---- tests that are made one after the other, by number

pub none_yet : (ws : List ℕ) → NoneBelow ws 1
none_yet ws e h w = omega (arith, up_to_nine e)

module _ (ws : List ℕ) (k : ℕ) (low : NoneBelow ws k) where
  pub none_more : Tries ws (fault k) {A = Unit {0}} (Ok tt) → NoneBelow ws (k + 1)
  none_more none = firsts.none_more number place fault back (CardWrong ws) k low none

  -- the fault that a test answers is the first of all, where faults of its kind have the number k
  pub first_tried : (e : CardFault) → Tries ws (fault k) {A = Unit {0}} (Err e) → ((i : ℕ) → (number (fault k i) ≡ k) × (place (fault k i) ≡ i)) → First card_turn (CardWrong ws) e
  first_tried e h at = subst (λ d. First card_turn (CardWrong ws) d) (sym h.1) (firsts.first_at number place fault back (CardWrong ws) k h.0 low h.2 (at h.0).0 (at h.0).1)

  -- and where that answer is handed on
  pub declined : (r : Result (Unit {0}) CardFault) (e : CardFault) → IsErrAnd r (λ d. d ≡ e) → Tries ws (fault k) {A = Unit {0}} (Err e) → ((i : ℕ) → (number (fault k i) ≡ k) × (place (fault k i) ≡ i)) → Reads ws r
  declined (Ok _) e is h at = absurd is
  declined (Err d) e is h at = subst (λ x. First card_turn (CardWrong ws) x) (sym is) (first_tried e h at)

-- what the tests of heads and of nexts answer in turn
pub links : (ws : List ℕ) (r : Result (Unit {0}) CardFault) → Least (WrongHead ws) None → TriesOf (WrongNext ws) BadLink r → Tries ws BadLink r
links ws (Ok _) none h = firsts.least_right (WrongHead ws) (WrongNext ws) None none h
links ws (Err e) none h = (h.0, h.1, firsts.least_right (WrongHead ws) (WrongNext ws) (Some h.0) none h.2)

-- ---- words without a fault are a card

module _ (ws : List ℕ) (none : (e : CardFault) → CardWrong ws e → ⊥) where
  version : Version ws
  version = grind (arith, cases_eq (word ws 0) 1, none OtherVersion)

  counts : Counts ws
  counts = grind (arith, none (BadCount 1), none (BadCount 2), none (BadCount 3))

  whole : Length ws
  whole = grind (arith, cases_eq (length ws) (card_length ws), none (WrongLength (length ws)))

  sizes : Sizes ws
  sizes v l = grind (arith, none (BadSize (size_at ws v)))

  starts : Starts ws
  starts v l = grind (arith, none (BadStart (start_at ws v)))

  heads : Heads ws
  heads i l = grind (arith, none (BadLink (goal_at ws + i)))

  nexts : Nexts ws
  nexts k is = grind (arith, none (BadLink (next_at ws k)))

  recs : Records ws
  recs k is = grind (arith, none (BadRecord (record_at ws k)), none (BadRecord (record_at ws k + 1)))

  ascends : Ascends ws
  ascends k is l = grind (arith, none (BadOrder (next_at ws k)))

  -- and its chains are whole
  pub clean_card : ((e : CardFault) → CardWrong ws e → ⊥) × IsCard ws × ((k : ℕ) → k ≤ records ws → WholeChain ws k)
  clean_card = (
    none,
    record { version = version; counts = counts; long = whole; sizes = sizes; starts = starts; heads = heads; nexts = nexts; records = recs; ascends = ascends },
    chain_whole ws nexts recs ascends,
  )

-- what the last test answers is what the reader answers
pub reads_last : (ws : List ℕ) (r : Result (Unit {0}) CardFault) → NoneBelow ws 9 → Tries ws BadOrder r → Reads ws r
reads_last ws (Ok _) low none = clean_card ws (λ e w. none_more ws 9 low none e (omega (arith, up_to_nine e)) w)
reads_last ws (Err e) low h = first_tried ws 9 low e h (λ i. (refl, refl))
