-- What an engine's call asks of its seat, what it does to it, and what it answers.
use Rattle.std.specs.Prelude.{◌≡◌, ℕ, ◌<◌, ◌≤◌, Bool, List, [], ◌∷◌, ◌++◌, length, Some, IsTrue}
use Rattle.commit_core.specs.Machine.{commit_needs}
use Rattle.dt_model.specs.declared.calls.Call.{Call}
use Rattle.dt_model.specs.declared.calls.Entry.{Entry}
use Rattle.dt_model.specs.declared.calls.Turn.{Turn}
use Rattle.dt_model.specs.declared.replies.Reply.{Reply}
use Rattle.dt_model.specs.Runs.{reply_of_entry}
use Rattle.dt_model.specs.Verdicts.{call_is_valid}
use Rattle.fiber_latch.specs.declared.rule.Busy.{Busy}
use Rattle.fiber_latch.specs.Views.{In, Extends}
use Rattle.fiber_latch.specs.Seats.{SeatState, IsOutside, IsHeldBy, last_number}
use Rattle.sessions.specs.declared.faults.TryFault.{TryFault}
use Rattle.sessions.specs.declared.faults.TryFault.TheVariants as fault

-- the entry of a call at a turn
abbrev pub entry_at : Turn → Call → Entry
entry_at turn call = record { turn = turn; call = call }

-- the turn may come next: its session is the seat's, and its number is above the session's last and at most the table's
pub record IsNext (turn : Turn) (s : SeatState) : Type 0 where
  pub low : s.first ≤ turn.session
  pub high : turn.session ≤ s.last
  pub above : last_number turn.session s.seen < turn.number
  pub few : turn.number ≤ s.config.calls

-- the seat may make the entry's call: its turn may come next, the call is valid, and the seat holds no latch
pub record CanMake (e : Entry) (s : SeatState) : Type 0 where
  pub next : IsNext e.turn s
  pub valid : IsTrue (call_is_valid s.config.world.decls e.call)
  pub idle : s.held ≡ []

-- ---- what a call does to its seat

-- the seat is the same one, whatever it holds, and no entry that it has seen meanwhile is of its sessions
pub record GoesOn (old new : SeatState) : Type 0 where
  pub rest : new ≡ record old { held = new.held; seen = new.seen; conflicts = new.conflicts }
  pub grown : Extends (IsOutside old.first old.last) old.seen new.seen

-- a call was made: its entry comes last, behind what the seat had seen and entries of other seats' sessions, and the reply is
-- the one of that place; the seat is the same one, and holds what it held
pub record HasMade (e : Entry) (reply : Reply) (old new : SeatState) : Type 0 where
  pub before : List Entry
  pub grown : Extends (IsOutside old.first old.last) old.seen before
  pub seen : new.seen ≡ before ++ e ∷ []
  pub rest : new ≡ record old { seen = new.seen; conflicts = new.conflicts }
  pub answers : reply_of_entry old.config.world new.seen (length before) ≡ Some reply

-- the seat has noted more conflicts, or none: each is with one of these latches, and with a session of another seat
pub record NotesConflicts (latches : ℕ → Bool) (old new : SeatState) : Type 0 where
  pub later : List (ℕ × ℕ)
  pub noted : new.conflicts ≡ old.conflicts ++ later
  pub each : (p : ℕ × ℕ) → In p later → IsTrue (latches p.0) × IsHeldBy p.1 old

-- a call was stopped by a latch that its commit needs; the conflict with a session of another seat is noted, the seat holds
-- what it held, and has seen no more entry of its sessions
pub record IsStopped (call : Call) (old : SeatState) (b : Busy) (new : SeatState) : Type 0 where
  pub goes : GoesOn old new
  pub held : new.held ≡ old.held
  pub conflicts : new.conflicts ≡ old.conflicts ++ (b.latch, b.holder) ∷ []
  pub latch : IsTrue (commit_needs old.config.world.decls call b.latch)
  pub holder : IsHeldBy b.holder old

-- a call that doesn't wait ran out of memory: the seat may have seen entries of other seats' sessions, and no more
pub record IsOutOfMemory (old new : SeatState) : Type 0 where
  pub rest : new ≡ record old { seen = new.seen }
  pub grown : Extends (IsOutside old.first old.last) old.seen new.seen

-- a call that may wait ran out of memory: the same, but that it may have met latches that were held
pub record IsGivenUp (old new : SeatState) : Type 0 where
  pub rest : new ≡ record old { seen = new.seen; conflicts = new.conflicts }
  pub grown : Extends (IsOutside old.first old.last) old.seen new.seen

-- a call that doesn't wait was stopped or ran out of memory, and what was handed in comes back
abbrev pub HasFault : {T : Type 0} → Call → T → SeatState → TryFault T → SeatState → Type 0
HasFault call given old (fault.Busy b back) new = IsStopped call old b new × (back ≡ given)
HasFault call given old (fault.NoMemory back) new = IsOutOfMemory old new × (back ≡ given)
