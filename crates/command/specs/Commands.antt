-- What a line says, by its words.
use Rattle.std.specs.Prelude.{ℕ, Bool, true, cond, ◌&&◌, List, [], ◌∷◌, Some, None, Ok, Err, vec_items, codes, Option, Result, nat_lt}
use Rattle.std.specs.Str.{bytes_eq as same_text}
use Rattle.command.specs.declared.kinds.Verb.{Verb}
use Rattle.command.specs.declared.kinds.Verb.TheVariants as verb
use Rattle.command.specs.declared.kinds.Command.{Command}
use Rattle.command.specs.declared.kinds.Command.TheVariants as command
use Rattle.command.specs.declared.kinds.Query.{Query}
use Rattle.command.specs.declared.kinds.Query.TheVariants as query
use Rattle.command.specs.declared.kinds.LineFault.{LineFault}
use Rattle.command.specs.declared.kinds.LineFault.TheVariants.{NoCommand, NoNumber, WrongCount}
use Rattle.command.specs.Words.{numerals}

abbrev pub verb_of : List ℕ → Option Verb
verb_of w =
    cond (same_text w (codes "card")) (Some verb.Card)
    (cond (same_text w (codes "ring")) (Some verb.Ring)
    (cond (same_text w (codes "leave-out")) (Some verb.LeaveOut)
    (cond (same_text w (codes "join")) (Some verb.Join)
    (cond (same_text w (codes "task")) (Some verb.Task)
    (cond (same_text w (codes "follow")) (Some verb.Follow)
    (cond (same_text w (codes "image")) (Some verb.Image)
    (cond (same_text w (codes "frame")) (Some verb.Frame)
    (cond (same_text w (codes "code")) (Some verb.Code)
    (cond (same_text w (codes "step")) (Some verb.Step)
    None)))))))))

-- a command, with the numbers that it takes
pub data Saying : Type 0 where
  card : (words : List ℕ) → Saying
  ring : (places : ℕ) → Saying
  leave_out : (mask : ℕ) → Saying
  join : (variable low high : ℕ) → Saying
  task : Saying
  follow : (operators : List ℕ) → Saying
  image : (variable value : ℕ) → Saying
  frame : (mask : ℕ) → Saying
  code : (mask : ℕ) (values : List ℕ) → Saying
  step : (mask code operator : ℕ) → Saying

-- a number of 16 bits
abbrev pub narrow : ℕ → Bool
narrow x = nat_lt x 65536

abbrev pub all_narrow : List ℕ → Bool
all_narrow [] = true
all_narrow (x ∷ xs) = narrow x && all_narrow xs

abbrev pub where_fit : Bool → Saying → Result Saying LineFault
where_fit b s = cond b (Ok s) (Err NoNumber)

-- what a command says that takes no number, one, two, three, or one and then any
abbrev pub with_none : Saying → List ℕ → Result Saying LineFault
with_none s [] = Ok s
with_none s (x ∷ xs) = Err WrongCount

abbrev pub with_one : (ℕ → Result Saying LineFault) → List ℕ → Result Saying LineFault
with_one s [] = Err WrongCount
with_one s (x ∷ []) = s x
with_one s (x ∷ y ∷ xs) = Err WrongCount

abbrev pub with_two : (ℕ → ℕ → Result Saying LineFault) → List ℕ → Result Saying LineFault
with_two s [] = Err WrongCount
with_two s (x ∷ []) = Err WrongCount
with_two s (x ∷ y ∷ []) = s x y
with_two s (x ∷ y ∷ z ∷ xs) = Err WrongCount

abbrev pub with_three : (ℕ → ℕ → ℕ → Result Saying LineFault) → List ℕ → Result Saying LineFault
with_three s [] = Err WrongCount
with_three s (x ∷ []) = Err WrongCount
with_three s (x ∷ y ∷ []) = Err WrongCount
with_three s (x ∷ y ∷ z ∷ []) = s x y z
with_three s (x ∷ y ∷ z ∷ w ∷ xs) = Err WrongCount

abbrev pub with_first : (ℕ → List ℕ → Result Saying LineFault) → List ℕ → Result Saying LineFault
with_first s [] = Err WrongCount
with_first s (x ∷ xs) = s x xs

-- the verb takes these numbers; words, operators and values have 16 bits
abbrev pub taking : Verb → List ℕ → Result Saying LineFault
taking verb.Card xs = where_fit (all_narrow xs) (card xs)
taking verb.Ring xs = with_one (λ n. Ok (ring n)) xs
taking verb.LeaveOut xs = with_one (λ mask. Ok (leave_out mask)) xs
taking verb.Join xs = with_three (λ v a b. where_fit (narrow a && narrow b) (join v a b)) xs
taking verb.Task xs = with_none task xs
taking verb.Follow xs = where_fit (all_narrow xs) (follow xs)
taking verb.Image xs = with_two (λ v x. where_fit (narrow x) (image v x)) xs
taking verb.Frame xs = with_one (λ mask. Ok (frame mask)) xs
taking verb.Code xs = with_first (λ mask ys. where_fit (all_narrow ys) (code mask ys)) xs
taking verb.Step xs = with_three (λ mask c o. Ok (step mask c o)) xs

abbrev pub with_numbers : Option Verb → Option (List ℕ) → Result Saying LineFault
with_numbers None xs = Err NoCommand
with_numbers (Some v) None = Err NoNumber
with_numbers (Some v) (Some xs) = taking v xs

-- what the words of a line say; a line without words says nothing
abbrev pub says : List (List ℕ) → Option (Result Saying LineFault)
says [] = None
says (w ∷ ws) = Some (with_numbers (verb_of w) (numerals 32 ws))

abbrev pub asked : Query → Saying
asked query.Task = task
asked (query.Follow v) = follow (vec_items v)
asked (query.Image v x) = image v x
asked (query.Frame mask) = frame mask
asked (query.Code mask v) = code mask (vec_items v)
asked (query.Step mask c o) = step mask c o

abbrev pub saying_of : Command → Saying
saying_of (command.Card v) = card (vec_items v)
saying_of (command.Ring n) = ring n
saying_of (command.LeaveOut mask) = leave_out mask
saying_of (command.Join v a b) = join v a b
saying_of (command.Ask q) = asked q

-- what the answer of the parser says
abbrev pub meant : Result Command LineFault → Result Saying LineFault
meant (Ok c) = Ok (saying_of c)
meant (Err e) = Err e
