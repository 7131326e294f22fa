-- Files, and what is read of one file.
use Rattle.std.specs.Prelude.{ℕ, List, length, Result, Ok, Err, nat_le}
use Rattle.dt_model.specs.declared.declared_tensors.Schema.{Schema}
use Rattle.dt_model.specs.declared.limits.TheConstants.{FILE_LIMIT}
use Rattle.tns_io.specs.declared.faults.FileCause.TheVariants as because
use Rattle.tns_io.specs.declared.faults.FileFault.{FileFault}
use Rattle.tns_io.specs.Faults.{fault_at}
use Rattle.schema_read.specs.declared.read.SchemaFault.{SchemaFault}
use Rattle.schema_read.specs.declared.read.SchemaFault.TheVariants as schema
use Rattle.schema_read.specs.Reading.{schemas_in}
use Rattle.script_read.specs.Readings.{◌>>=◌, check}
use Rattle.dyntensor.specs.declared.faults.Cause.TheVariants.{Line, FormAt, LimitAt}
use Rattle.dyntensor.specs.declared.faults.Fault.{Fault}

-- the bytes of each file by its name
abbrev pub Files : Type 0
Files = List ℕ → List ℕ

-- ---- lines

-- a fault of a line of a named file
abbrev pub fault_in : List ℕ → FileFault → Fault
fault_in file fault = record { file = file; line = fault.line; cause = Line fault.cause }

-- a reading of a file's text, whose fault names the file
abbrev pub located : {X : Type 0} → List ℕ → Result X FileFault → Result X Fault
located file (Ok x) = Ok x
located file (Err fault) = Err (fault_in file fault)

-- the fault of a file that is too large: it has line 0
abbrev pub too_large : List ℕ → Fault
too_large file = fault_in file (fault_at 0 because.Limit)

-- the text of a file, if it is no longer than the limit
abbrev pub text_in : Files → List ℕ → Result (List ℕ) Fault
text_in files file = check (nat_le (length (files file)) FILE_LIMIT) (too_large file) >>= (λ _. Ok (files file))

-- ---- schemas

-- a fault of a schema file, with line and column; the last case is none of a text
abbrev pub schema_fault_in : List ℕ → SchemaFault → Fault
schema_fault_in file (schema.Form line column) = record { file = file; line = line; cause = FormAt column }
schema_fault_in file (schema.Limit line column) = record { file = file; line = line; cause = LimitAt column }
schema_fault_in file schema.NoMemory = too_large file

-- a reading of a schema file's text, whose fault names the file
abbrev pub schemas_located : List ℕ → Result (List Schema) SchemaFault → Result (List Schema) Fault
schemas_located file (Ok schemas) = Ok schemas
schemas_located file (Err fault) = Err (schema_fault_in file fault)

-- the schemas of a file
abbrev pub schemas_of : Files → List ℕ → Result (List Schema) Fault
schemas_of files file = text_in files file >>= (λ text. schemas_located file (schemas_in text))
