-- What comes of each line of a script.
use Rattle.std.specs.Prelude.{ℕ, ◌-◌, List, map, Option, Some, None, slice_get, if◌then◌else◌, ◌&&◌, nat_le, option_and_then}
use Rattle.std.specs.List.{enumerate_from}
use Rattle.dt_model.specs.declared.calls.Entry.{Entry}
use Rattle.dt_model.specs.declared.replies.Reply.{Reply}
use Rattle.dt_model.specs.declared.replies.Verdict.{Verdict}
use Rattle.dt_model.specs.declared.replies.Verdict.TheVariants.{Accepted, Refused}
use Rattle.dt_model.specs.declared.replies.World.{World}
use Rattle.dt_model.specs.Runs.{reply_of_turn}
use Rattle.sessions.specs.declared.outcomes.Outcome.{Outcome}
use Rattle.sessions.specs.declared.outcomes.Outcome.TheVariants as outcome

-- the reply, or out of memory where there is none
abbrev pub call_outcome : Option Reply → Outcome
call_outcome None = outcome.NoMemory
call_outcome (Some reply) = outcome.Reply reply

-- of a line: its refusal, or what came of its call
abbrev pub outcome_of : Verdict → Option Reply → Outcome
outcome_of (Refused r) reply = outcome.Refused r
outcome_of (Accepted call) reply = call_outcome reply

-- of a script's lines, the first of which has number n, where r k is the reply to line k
abbrev pub line_outcomes : (ℕ → Option Reply) → ℕ → List Verdict → List Outcome
line_outcomes r n verdicts = map (λ q. outcome_of q.1 (r q.0)) (enumerate_from n verdicts)

-- of session s with this script, where the history has these entries
abbrev pub session_outcomes : World → List Entry → ℕ → List Verdict → List Outcome
session_outcomes w entries s script = line_outcomes (reply_of_turn w entries s) 1 script

-- of all sessions, the first of which has number n
abbrev pub outcomes_from : World → List Entry → ℕ → List (List Verdict) → List (List Outcome)
outcomes_from w entries n scripts = map (λ p. session_outcomes w entries p.0 p.1) (enumerate_from n scripts)

-- of sessions 1 to the number of scripts, where the history has these entries
abbrev pub outcomes_after : World → List Entry → List (List Verdict) → List (List Outcome)
outcomes_after w entries scripts = outcomes_from w entries 1 scripts

-- the outcome of a turn; session and number are counted from 1
abbrev pub outcome_of_turn : List (List Outcome) → ℕ → ℕ → Option Outcome
outcome_of_turn outcomes s n = if nat_le 1 s && nat_le 1 n then option_and_then (λ lines. slice_get lines (n - 1)) (slice_get outcomes (s - 1)) else None
