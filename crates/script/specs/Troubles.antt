-- What is told of a line that is not read, and of a layer that is not put on top.
use Rattle.std.specs.Prelude.{◌≡◌}
use Rattle.std.specs.IoError.{error_kind}
use Rattle.std.specs.declared.io.ErrorKind.TheVariants.{OutOfMemory}
use Rattle.reduction.specs.declared.fault.PutError.{PutError}
use Rattle.reduction.specs.declared.fault.PutError.TheVariants as put
use Rattle.reduction.specs.Faults.{reduction_refusal}
use Rattle.command.specs.declared.kinds.ParseError.{ParseError}
use Rattle.command.specs.declared.kinds.ParseError.TheVariants as parse
use Rattle.script.specs.declared.trouble.Trouble.{Trouble}
use Rattle.script.specs.declared.trouble.Trouble.TheVariants.{Line, Declined, Machine}

-- memory failed
abbrev pub full : Trouble → Type 0
full t = (e : _) × (error_kind e ≡ OutOfMemory) × (t ≡ Machine e)

abbrev pub unread : ParseError → Trouble → Type 0
unread (parse.Line fault) t = t ≡ Line fault
unread (parse.OutOfMemory e) t = full t

abbrev pub not_put : PutError → Trouble → Type 0
not_put (put.Declined fault) t = t ≡ Declined (reduction_refusal fault)
not_put (put.OutOfMemory e) t = full t
