-- What contracts see of a shelf and of sinks in memory, and of a gate at which calls look for one another.
use Rattle.std.specs.Prelude.{ℕ, Bool, List, [], Some}
use Rattle.dt_model.specs.declared.calls.Turn.{Turn}
use Rattle.dt_outside.specs.declared.hold_gates.Meeting.{Meeting}
use Rattle.dt_outside.specs.declared.memory_files.MemFile.{MemFile}
use Rattle.dt_outside.specs.Faults.{ShelfState}
use Rattle.dt_outside.specs.MemoryFiles.{bytes_under}

-- the files in the order in which they came, the fetches that fail, how many were made, how many of them failed,
-- and the name of the last one that did
pub record MemShelfState : Type 0 where
  pub files : List MemFile
  pub fails : List ℕ
  pub calls : ℕ
  pub faults : ℕ
  pub blamed : List ℕ

-- what was written, the room that is left, the most that a call takes, the calls that fail, how many were made, and how
-- many of them failed
pub record MemSinkState : Type 0 where
  pub bytes : List ℕ
  pub spare : ℕ
  pub most : ℕ
  pub fails : List ℕ
  pub calls : ℕ
  pub faults : ℕ

-- the bytes that were kept, the room that is left, and whether some weren't kept
pub record SureSinkState : Type 0 where
  pub bytes : List ℕ
  pub spare : ℕ
  pub cut : Bool

-- what such a shelf exposes as a shelf
abbrev pub shelf_state : MemShelfState → ShelfState
shelf_state s = record { files = Some (bytes_under s.files); faults = s.faults; blamed = s.blamed }

-- what a shelf that never fails exposes as a shelf
abbrev pub sure_state : List MemFile → ShelfState
sure_state files = record { files = Some (bytes_under files); faults = 0; blamed = [] }

-- the turns that look, each with the one that it looks for, and how often it looks
pub record HoldGateState : Type 0 where
  pub waits : List (Turn × Turn)
  pub turns : ℕ

-- a turn that looks, with the one that it looks for
abbrev pub pair_of : Meeting → Turn × Turn
pair_of m = (m.looking, m.wanted)
