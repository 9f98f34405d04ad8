-- What a line says, from its verb and its numbers.
use Rattle.std.proofs.Common.{◌≡◌, ℕ, List, ◌∷◌, Some, None, Ok, Err, Option, Result, ap, subst}
use Rattle.std.specs.Option.{ok_or}
use Rattle.command.specs.declared.kinds.Verb.{Verb}
use Rattle.command.specs.declared.kinds.LineFault.{LineFault}
use Rattle.command.specs.declared.kinds.LineFault.TheVariants.{NoCommand, NoNumber}
use Rattle.command.specs.declared.kinds.ParseError.{ParseError}
use Rattle.command.specs.declared.kinds.ParseError.TheVariants.{Line, OutOfMemory}
use Rattle.command.specs.Words.{FirstWord, Words, BeforeComment, numerals}
use Rattle.command.specs.Commands.{Saying, verb_of, taking, with_numbers, says}
use Rattle.command.specs.Faults.{IfMemorySuffices}

-- what is said of an answer where memory suffices, from what was said of it
pub if_memory-weaker : {T : Type 0} (r : Result T ParseError) (P Q : Result T LineFault → Type 0)
    → IfMemorySuffices r P → ((x : Result T LineFault) → P x → Q x) → IfMemorySuffices r Q
if_memory-weaker (Ok x) P Q h k = k (Ok x) h
if_memory-weaker (Err (Line fault)) P Q h k = k (Err fault) h
if_memory-weaker (Err (OutOfMemory full)) P Q h k = tt

-- the same of a fault, which is passed on as the answer of another kind
pub at_fault : {T U : Type 0} (P : Result T LineFault → Type 0) (Q : Result U LineFault → Type 0) (e : ParseError)
    → IfMemorySuffices (Err e) P → ((fault : LineFault) → P (Err fault) → Q (Err fault)) → IfMemorySuffices (Err e) Q
at_fault P Q (Line fault) h k = k fault h
at_fault P Q (OutOfMemory full) h k = tt

pub no_command : (v : Option Verb) (xs : Option (List ℕ)) (fault : LineFault)
    → Err fault ≡ ok_or v NoCommand → Err fault ≡ with_numbers v xs
no_command None xs fault e = cc
no_command (Some v) xs fault e = absurd (cc)

pub no_number : (v : Option Verb) (xs : Option (List ℕ)) (verb : Verb) (fault : LineFault)
    → Ok verb ≡ ok_or v NoCommand → Err fault ≡ ok_or xs NoNumber → Err fault ≡ with_numbers v xs
no_number None xs verb fault k e = absurd (cc)
no_number (Some w) None verb fault k e = cc
no_number (Some w) (Some ys) verb fault k e = absurd (cc)

pub taken : (v : Option Verb) (xs : Option (List ℕ)) (verb : Verb) (found : List ℕ)
    → Ok verb ≡ ok_or v NoCommand → Ok found ≡ ok_or xs NoNumber → taking verb found ≡ with_numbers v xs
taken None xs verb found k e = absurd (cc)
taken (Some w) None verb found k e = absurd (cc)
taken (Some w) (Some ys) verb found k e = cc

-- the answer for a line whose first word is the name, and whose other words are ws
pub line_says : {line text start name rest : List ℕ} → BeforeComment line text → start ≡ text → FirstWord start name rest
    → (ws : List (List ℕ)) → Words rest ws → (answer : Result Saying LineFault) → answer ≡ with_numbers (verb_of name) (numerals 32 ws)
    → (before : List ℕ) × (all : List (List ℕ)) × BeforeComment line before × Words before all × (Some answer ≡ says all)
line_says {text} {name} {rest} before begins first ws words answer e =
    (text, name ∷ ws, before, (rest, subst (λ bs. FirstWord bs name rest) begins first, words), ap Some e)
