-- One session of a seat runs its script, line by line. No public clause cites this module.
use Rattle.std.specs.Prelude.{ℕ, ◌≡◌, ◌≢◌, ◌-◌, ◌≤◌, true, List, [], length, Option, Some, None, slice_get, if◌then◌else◌, nat_le, option_and_then}
use Rattle.dt_model.specs.declared.calls.Call.{Call}
use Rattle.dt_model.specs.declared.calls.Call.TheVariants.{Get}
use Rattle.dt_model.specs.declared.calls.Cell.{Cell}
use Rattle.dt_model.specs.declared.calls.Entry.{Entry}
use Rattle.dt_model.specs.declared.calls.Turn.{Turn}
use Rattle.dt_model.specs.declared.replies.Verdict.{Verdict}
use Rattle.dt_model.specs.declared.replies.Verdict.TheVariants.{Accepted, Refused}
use Rattle.dt_model.specs.Calls.{IsNoGet}
use Rattle.dt_model.specs.Runs.{accepted_call, has_turn}
use Rattle.fiber_latch.specs.Views.{In, Extends}
use Rattle.fiber_latch.specs.Seats.{SeatState, OwnsSession}
use Rattle.sessions.specs.declared.outcomes.Outcome.{Outcome}
use Rattle.sessions.specs.declared.outcomes.Outcome.TheVariants as outcome
use Rattle.sessions.specs.Calling.{entry_at, HasMade, IsGivenUp}
use Rattle.sessions.specs.LinesValue.{LinesState}

-- ---- a line

-- the call of line n of a script, if the line is accepted; lines are counted from 1
abbrev pub line_call : List Verdict → ℕ → Option Call
line_call script n = if nat_le 1 n then option_and_then accepted_call (slice_get script (n - 1)) else None

-- what came of an entry's call: it was made, and this is the reply; or it ran out of memory, is no get, and added nothing
abbrev pub CameTo : Entry → SeatState → Outcome → SeatState → Type 0
CameTo e old (outcome.Refused r) new = ⊥
CameTo e old (outcome.Reply reply) new = HasMade e reply old new
CameTo e old outcome.NoMemory new = IsNoGet e.call × IsGivenUp old new

-- a line was run at its turn: its call was tried, or the line is refused and nothing was done
abbrev pub RunsLine : Turn → Verdict → SeatState → Outcome → SeatState → Type 0
RunsLine turn (Accepted call) old o new = CameTo (entry_at turn call) old o new
RunsLine turn (Refused r) old o new = (o ≡ outcome.Refused r) × (new ≡ old)

-- the seat owns all sessions of its table
pub record OwnsAll (s : SeatState) : Type 0 where
  pub first : s.first ≡ 1
  pub last : s.last ≡ s.config.sessions

-- ---- the lines so far

-- the entry is that of a line up to i, with the line's call
pub record IsLine (script : List Verdict) (i : ℕ) (e : Entry) : Type 0 where
  pub number : e.turn.number ≤ i
  pub call : line_call script e.turn.number ≡ Some e.call

-- no entry is of session s
abbrev pub IsFresh : ℕ → List Entry → Type 0
IsFresh s seen = (e : Entry) → In e seen → e.turn.session ≢ s

-- session s of the seat has run lines 1 to i: it is the same seat; of its sessions, only s has later entries; each entry of s is that
-- of a line, and each get of a line was made
pub record IsAtLine (script : List Verdict) (s i : ℕ) (old new : SeatState) : Type 0 where
  pub rest : new ≡ record old { seen = new.seen; conflicts = new.conflicts }
  pub grown : Extends (λ e. OwnsSession old e.turn.session → e.turn.session ≡ s) old.seen new.seen
  pub own : (e : Entry) → In e new.seen → e.turn.session ≡ s → IsLine script i e
  pub gets : (n : ℕ) (cell : Cell) → n ≤ i → line_call script n ≡ Some (Get cell) → has_turn new.seen s n ≡ true

-- there are no outcomes yet, and room for one of each line
pub record HasRoom (script : List Verdict) (lines : LinesState) : Type 0 where
  pub empty : lines.outcomes ≡ []
  pub room : length script ≤ lines.spare
