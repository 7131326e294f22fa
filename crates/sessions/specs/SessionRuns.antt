-- Sessions that run side by side, each with a seat of its own. No public clause cites this module.
use Rattle.std.specs.Prelude.{ℕ, ◌≡◌, ◌-◌, ◌<◌, ◌≤◌, List, [], length, slice_index_or}
use Rattle.dt_model.specs.declared.replies.Verdict.{Verdict}
use Rattle.dt_model.specs.declared.replies.World.{World}
use Rattle.fiber_latch.specs.Seats.{SeatState, TableState, BelongsTo}
use Rattle.sessions.specs.declared.running.SessionRun.{SessionRun}
use Rattle.sessions.specs.LinesValue.{LinesState}
use Rattle.sessions.specs.Outcomes.{session_outcomes}
use Rattle.sessions.specs.Running.{CanRun}
use Rattle.sessions.specs.ScriptLines.{IsFresh, IsAtLine, HasRoom}

-- the script of session s
abbrev pub script_of : List (List Verdict) → ℕ → List Verdict
script_of scripts s = slice_index_or scripts (s - 1) []

-- room for the outcomes of each script
pub record HaveRoom (scripts : List (List Verdict)) (lines : List LinesState) : Type 0 where
  pub count : length lines ≡ length scripts
  pub each : (k : ℕ) (d : LinesState) → k < length scripts → HasRoom (slice_index_or scripts k []) (slice_index_or lines k d)

-- the seat of session s alone, cut off from the old one
pub record IsPart (old : SeatState) (s : ℕ) (part : SeatState) : Type 0 where
  pub rest : part ≡ record old { first = s; last = s; conflicts = part.conflicts }

-- the run at index k of those that were cut off, the last session's first: its seat, and the room of its session
pub record IsCutOff (old : SeatState) (lines : List LinesState) (k : ℕ) (run : SessionRun) : Type 0 where
  pub part : IsPart old (length lines - k) run.seat
  pub room : run.lines ≡ slice_index_or lines (length lines - k - 1) run.lines

-- the seat was cut into one for each session
pub record AreCut (old : SeatState) (lines : List LinesState) (runs : List SessionRun) : Type 0 where
  pub count : length runs ≡ length lines
  pub each : (k : ℕ) (d : SessionRun) → k < length runs → IsCutOff old lines k (slice_index_or runs k d)

-- a session that may run its script: its seat owns it alone, holds no latch and has seen no entry of it, and there is room
pub record IsReady (table : TableState) (scripts : List (List Verdict)) (run : SessionRun) : Type 0 where
  pub engine : BelongsTo run.seat table
  pub one : run.seat.last ≡ run.seat.first
  pub low : 1 ≤ run.seat.first
  pub high : run.seat.first ≤ length scripts
  pub idle : run.seat.held ≡ []
  pub fresh : IsFresh run.seat.first run.seat.seen
  pub room : HasRoom (script_of scripts run.seat.first) run.lines

-- session s, whose script this is, has come to the script's end, and its outcomes are there
pub record Finishes (w : World) (s : ℕ) (script : List Verdict) (old : SeatState) (new : SessionRun) : Type 0 where
  pub seat : IsAtLine script s (length script) old new.seat
  pub outcomes : new.lines.outcomes ≡ session_outcomes w new.seat.seen s script

-- the one session of a seat has run its script
abbrev pub RunsScript : World → List (List Verdict) → SessionRun → SessionRun → Type 0
RunsScript w scripts old new = Finishes w old.seat.first (script_of scripts old.seat.first) old.seat new

-- session s, whose seat was cut off from the old one, has run its script
pub record IsDone (w : World) (scripts : List (List Verdict)) (old : SeatState) (s : ℕ) (run : SessionRun) : Type 0 where
  pub part : SeatState
  pub cut : IsPart old s part
  pub done : Finishes w s (script_of scripts s) part run

-- each session of a seat that could run the scripts has run its own, the last session first
pub record AreDone (table : TableState) (scripts : List (List Verdict)) (old : SeatState) (runs : List SessionRun) : Type 0 where
  pub engine : BelongsTo old table
  pub could : CanRun scripts old
  pub count : length runs ≡ length scripts
  pub each : (k : ℕ) (d : SessionRun) → k < length runs
      → IsDone table.config.world scripts old (length runs - k) (slice_index_or runs k d)
