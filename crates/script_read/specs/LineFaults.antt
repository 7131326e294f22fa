-- What a call answers that reads a part of a script's line. No public clause cites this module.
use Rattle.std.specs.Prelude.{ℕ, ◌+◌, ◌≡◌, Result, Ok, Err, ⊤}
use Rattle.dt_model.specs.declared.replies.Refusal.{Refusal}
use Rattle.dt_model.specs.declared.replies.Refusal.TheVariants as because
use Rattle.index_read.specs.declared.read.StmtFault.{StmtFault}
use Rattle.index_read.specs.declared.read.StmtFault.TheVariants as stmt
use Rattle.script_read.specs.declared.line_faults.LineFault.{LineFault}
use Rattle.script_read.specs.declared.line_faults.LineFault.TheVariants.{Refused, NoMemory}

-- an answer is what the reading gives, unless it is out of memory
abbrev pub Gives : {X : Type 0} → Result X Refusal → Result X LineFault → Type 0
Gives reading (Ok x) = reading ≡ Ok x
Gives reading (Err (Refused r)) = reading ≡ Err r
Gives reading (Err NoMemory) = ⊤

-- a fault of a statement is that of its line, where so many bytes of the line are before the statement
abbrev pub IsLineFault : ℕ → StmtFault → LineFault → Type 0
IsLineFault before (stmt.Form column) fault = fault ≡ Refused (because.Form (before + column))
IsLineFault before (stmt.Limit column) fault = fault ≡ Refused (because.Limit (before + column))
IsLineFault before stmt.NoMemory fault = fault ≡ NoMemory
