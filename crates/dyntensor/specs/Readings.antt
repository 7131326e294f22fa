-- What readings of files answer: what they give, and why they stop. No public clause cites this module.
use Rattle.std.specs.Prelude.{ℕ, ◌≡◌, true, false, List, Option, Some, None, Result, Err, IfSome, ⊤}
use Rattle.dt_model.specs.declared.declared_tensors.Schema.{Schema}
use Rattle.dt_outside.specs.Faults.{ShelfState, HasRisen}
use Rattle.tns_io.specs.declared.faults.ReadFault.{ReadFault}
use Rattle.tns_io.specs.declared.faults.ReadFault.TheVariants as read
use Rattle.dyntensor.specs.declared.faults.Fault.{Fault}
use Rattle.dyntensor.specs.declared.outcomes.Outcome.{Outcome}
use Rattle.dyntensor.specs.declared.outcomes.Outcome.TheVariants as outcomes
use Rattle.dyntensor.specs.declared.outcomes.Outcome.TheVariants.{OutOfMemory}
use Rattle.dyntensor.specs.declared.stops.Stop.{Stop}
use Rattle.dyntensor.specs.declared.stops.Stop.TheVariants.{Refused, Unfetched, NoMemory}
use Rattle.dyntensor.specs.Checks.{all_keep, check_text}
use Rattle.dyntensor.specs.Reached.{IsReached}
use Rattle.dyntensor.specs.Workload.{Files, fault_in}

-- it holds of the files that are exposed, or of some files where none are
abbrev pub HoldsOf : Option Files → (Files → Type 0) → Type 0
HoldsOf None P = (files : Files) × P files
HoldsOf (Some files) P = P files

-- the shelf's files, and its count of faults, are as before
pub record IsQuiet (old new : ShelfState) : Type 0 where
  pub files : new.files ≡ old.files
  pub faults : new.faults ≡ old.faults

-- the fetch of a file failed: the shelf's count rose, and it blames this file
pub record HasFailed (old new : ShelfState) (file : List ℕ) : Type 0 where
  pub rose : HasRisen old.faults new.faults
  pub blamed : new.blamed ≡ file

-- why a reading stops that fetches no file
abbrev pub IsFaultStop : {X : Type 0} → Result X Fault → Stop → Type 0
IsFaultStop reading (Refused fault) = reading ≡ Err fault
IsFaultStop reading (Unfetched name) = ⊥
IsFaultStop reading NoMemory = ⊤

-- why a reading of files stops that fetches this file, if any
abbrev pub IsFileStop : {X : Type 0} → ShelfState → ShelfState → Option (List ℕ) → (Files → Result X Fault) → Stop → Type 0
IsFileStop old new file reading (Refused fault) = IfSome old.files (λ files. reading files ≡ Err fault)
IsFileStop old new file reading (Unfetched name) = (file ≡ Some name) × HasFailed old new name
IsFileStop old new file reading NoMemory = ⊤

-- why a reading of files stops that fetches those of a manifest's workload
abbrev pub IsStop : {X : Type 0} → ShelfState → ShelfState → List ℕ → (Files → Result X Fault) → Stop → Type 0
IsStop old new manifest reading (Refused fault) = IfSome old.files (λ files. reading files ≡ Err fault)
IsStop old new manifest reading (Unfetched file) = HasFailed old new file × IfSome old.files (λ files. IsReached files manifest file)
IsStop old new manifest reading NoMemory = ⊤

-- the stop for a file whose text isn't read
abbrev pub stop_of : List ℕ → ReadFault → Stop
stop_of file (read.At fault) = Refused (fault_in file fault)
stop_of file read.NoMemory = NoMemory

-- the outcome for a stop, unless it is out of memory
abbrev pub IsOutcomeOf : Stop → Outcome → Type 0
IsOutcomeOf stop OutOfMemory = ⊤
IsOutcomeOf (Refused fault) outcome = outcome ≡ outcomes.Refused fault
IsOutcomeOf (Unfetched file) outcome = outcome ≡ outcomes.Unfetched file
IsOutcomeOf NoMemory outcome = outcome ≡ OutOfMemory

-- the outcome of a check of some schemas, unless it is out of memory
abbrev pub IsOutcomeOfCheck : List Schema → Outcome → Type 0
IsOutcomeOfCheck schemas (outcomes.Report text) = (all_keep schemas ≡ true) × (text.items ≡ check_text schemas)
IsOutcomeOfCheck schemas (outcomes.Breaches text) = (all_keep schemas ≡ false) × (text.items ≡ check_text schemas)
IsOutcomeOfCheck schemas OutOfMemory = ⊤
IsOutcomeOfCheck schemas outcome = ⊥
