-- Histories that have every accepted call of a world.
use Rattle.std.specs.Prelude.{ℕ, ◌≡◌, true, List, Some}
use Rattle.dt_model.specs.declared.calls.Call.{Call}
use Rattle.dt_model.specs.declared.calls.Entry.{Entry}
use Rattle.dt_model.specs.declared.replies.World.{World}
use Rattle.dt_model.specs.Runs.{call_of, has_turn}

-- each accepted call is among the entries
abbrev pub AllCalls : World → List Entry → Type 0
AllCalls w entries = (s n : ℕ) (call : Call) → call_of w s n ≡ Some call → has_turn entries s n ≡ true
