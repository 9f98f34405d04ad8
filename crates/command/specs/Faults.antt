-- Why a line is no command: its texts, and what is said of an answer.
use Rattle.std.specs.Prelude.{ℕ, List, Ok, Err, codes, Result, ⊤}
use Rattle.command.specs.declared.kinds.LineFault.{LineFault}
use Rattle.command.specs.declared.kinds.LineFault.TheVariants.{NoCommand, NoNumber, WrongCount}
use Rattle.command.specs.declared.kinds.ParseError.{ParseError}
use Rattle.command.specs.declared.kinds.ParseError.TheVariants.{Line, OutOfMemory}

abbrev pub fault_text : LineFault → List ℕ
fault_text NoCommand = codes "no such command"
fault_text NoNumber = codes "not a number, or one that does not fit"
fault_text WrongCount = codes "the command takes another number of numbers"

-- where memory suffices, P holds of the value or the line's fault
abbrev pub IfMemorySuffices : {T : Type 0} → Result T ParseError → (Result T LineFault → Type 0) → Type 0
IfMemorySuffices (Ok x) P = P (Ok x)
IfMemorySuffices (Err (Line fault)) P = P (Err fault)
IfMemorySuffices (Err (OutOfMemory full)) P = ⊤
