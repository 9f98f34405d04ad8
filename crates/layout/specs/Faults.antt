-- The number, layer and place of each fault of a card, and the order in which they are tried.
use Rattle.std.specs.Prelude.{ℕ, List, [], ◌∷◌}
use Rattle.task.specs.declared.refusal.Refusal.{Refusal}
use Rattle.task.specs.declared.refusal.Layer.TheVariants.{Card}
use Rattle.layout.specs.declared.fault.CardFault.{CardFault}
use Rattle.layout.specs.declared.fault.CardFault.TheVariants.{TooShort, OtherVersion, BadCount, WrongLength, BadSize, BadStart, BadLink, BadRecord, BadOrder}

abbrev pub card_refusal : CardFault → Refusal
card_refusal (TooShort words) = record { number = 1; layer = Card; place = (words, 0) }
card_refusal OtherVersion = record { number = 2; layer = Card; place = (0, 0) }
card_refusal (BadCount i) = record { number = 3; layer = Card; place = (i, 0) }
card_refusal (WrongLength words) = record { number = 4; layer = Card; place = (words, 0) }
card_refusal (BadSize i) = record { number = 5; layer = Card; place = (i, 0) }
card_refusal (BadStart i) = record { number = 6; layer = Card; place = (i, 0) }
card_refusal (BadLink i) = record { number = 7; layer = Card; place = (i, 0) }
card_refusal (BadRecord i) = record { number = 8; layer = Card; place = (i, 0) }
card_refusal (BadOrder i) = record { number = 9; layer = Card; place = (i, 0) }

abbrev pub number : CardFault → ℕ
number e = (card_refusal e).number

abbrev pub place : CardFault → ℕ
place e = (card_refusal e).place.0

-- faults are tried by number, and each number from the lowest place on
abbrev pub card_turn : CardFault → List ℕ
card_turn e = number e ∷ place e ∷ []
