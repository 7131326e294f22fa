-- Which accepted call a session makes next.
use Rattle.std.specs.Prelude.{ℕ, ◌+◌, ◌-◌, List, length, slice_get, Option, Some, None, find, is_some, unwrap_or, nat_le, if◌then◌else◌, Bool, ◌==◌, ◌&&◌}
use Rattle.std.specs.List.{range_with_len, list_any}
use Rattle.dt_model.specs.declared.calls.Turn.{Turn}
use Rattle.dt_model.specs.declared.replies.Verdict.{Verdict}
use Rattle.dt_model.specs.declared.replies.World.{World}
use Rattle.dt_model.specs.Runs.{call_of}

-- the script of session s, which is counted from 1
abbrev pub script_of : World → ℕ → Option (List Verdict)
script_of w s = if nat_le 1 s then slice_get w.scripts (s - 1) else None

-- how many lines a script has; none where there is no script
abbrev pub lines_in : Option (List Verdict) → ℕ
lines_in None = 0
lines_in (Some script) = length script

-- the number of the first accepted call of session s after line n, 0 if there is none
abbrev pub next_after : World → ℕ → ℕ → ℕ
next_after w s n = unwrap_or (find (λ k. is_some (call_of w s k)) (range_with_len (n + 1) (lines_in (script_of w s) - n))) 0

-- whether the turn of session s and number n is among those that quit
abbrev pub is_lost : List Turn → ℕ → ℕ → Bool
is_lost lost s n = list_any (λ t. (t.session == s) && (t.number == n)) lost
