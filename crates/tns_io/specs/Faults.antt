-- Faults of files.
use Rattle.std.specs.Prelude.{ℕ, ◌≡◌, Result, Ok, Err, ⊤}
use Rattle.tns_io.specs.declared.faults.FileCause.{FileCause}
use Rattle.tns_io.specs.declared.faults.FileFault.{FileFault}
use Rattle.tns_io.specs.declared.faults.ReadFault.{ReadFault}
use Rattle.tns_io.specs.declared.faults.ReadFault.TheVariants.{At, NoMemory}

-- a fault at a line
abbrev pub fault_at : ℕ → FileCause → FileFault
fault_at line cause = record { line = line; cause = cause }

-- an answer is what the text reads as, unless it is out of memory
abbrev pub Tells : {X : Type 0} → Result X FileFault → Result X ReadFault → Type 0
Tells reading (Ok x) = reading ≡ Ok x
Tells reading (Err (At fault)) = reading ≡ Err fault
Tells reading (Err NoMemory) = ⊤
