-- What a run of scripts asks of its seat, and what it does to it.
use Rattle.std.specs.Prelude.{ℕ, ◌≡◌, ◌≤◌, Bool, true, List, [], ◌++◌, length, Option, Some, All, IsTrue, option_and_then}
use Rattle.dt_model.specs.declared.calls.Call.{Call}
use Rattle.dt_model.specs.declared.calls.Call.TheVariants.{Get}
use Rattle.dt_model.specs.declared.calls.Cell.{Cell}
use Rattle.dt_model.specs.declared.calls.Entry.{Entry}
use Rattle.dt_model.specs.declared.declared_tensors.Decls.{Decls}
use Rattle.dt_model.specs.declared.limits.TheConstants.{MOST_CALLS}
use Rattle.dt_model.specs.declared.replies.Verdict.{Verdict}
use Rattle.dt_model.specs.declared.replies.Verdict.TheVariants.{Accepted, Refused}
use Rattle.dt_model.specs.Runs.{accepted_call, verdict_of_turn, has_turn}
use Rattle.dt_model.specs.Verdicts.{call_is_valid}
use Rattle.fiber_latch.specs.declared.view.TableConfig.{TableConfig}
use Rattle.fiber_latch.specs.Views.{In}
use Rattle.fiber_latch.specs.Seats.{SeatState, OwnsSession}

-- ---- scripts

-- the call that the scripts have for a turn, if its line is accepted; session and number are counted from 1
abbrev pub scripted_call : List (List Verdict) → ℕ → ℕ → Option Call
scripted_call scripts s n = option_and_then accepted_call (verdict_of_turn scripts s n)

-- the entry's call is the one that the scripts have for its turn
abbrev pub IsScripted : List (List Verdict) → Entry → Type 0
IsScripted scripts e = scripted_call scripts e.turn.session e.turn.number ≡ Some e.call

-- whether the call of a line is valid, if the line is accepted
abbrev pub line_is_valid : Decls → Verdict → Bool
line_is_valid d (Accepted call) = call_is_valid d call
line_is_valid d (Refused r) = true

-- scripts that may be run over a table opened for this: each accepted call is valid, and no script has more lines than a session
-- has calls, which are within the limit
pub record AreRunnable (config : TableConfig) (scripts : List (List Verdict)) : Type 0 where
  pub valid : All (All (λ v. IsTrue (line_is_valid config.world.decls v))) scripts
  pub few : All (λ script. length script ≤ config.calls) scripts
  pub limit : config.calls ≤ MOST_CALLS

-- ---- the seat

-- the seat may run the scripts: there is one for each of its sessions, which are those from 1 on; it holds no latch, and has seen no
-- entry of its sessions
pub record CanRun (scripts : List (List Verdict)) (s : SeatState) : Type 0 where
  pub some : 1 ≤ length scripts
  pub first : s.first ≡ 1
  pub last : s.last ≡ length scripts
  pub idle : s.held ≡ []
  pub unused : (e : Entry) → In e s.seen → ¬ OwnsSession s e.turn.session

-- the seat's sessions have run their scripts: it is the same seat and holds what it held; what it had seen comes first; each entry of
-- its sessions is scripted; and each accepted get was made
pub record HasRun (scripts : List (List Verdict)) (old new : SeatState) : Type 0 where
  pub rest : new ≡ record old { seen = new.seen; conflicts = new.conflicts }
  pub begins : (more : List Entry) × (new.seen ≡ old.seen ++ more)
  pub own : (e : Entry) → In e new.seen → OwnsSession old e.turn.session → IsScripted scripts e
  pub gets : (s n : ℕ) (cell : Cell) → OwnsSession old s → scripted_call scripts s n ≡ Some (Get cell) → has_turn new.seen s n ≡ true
