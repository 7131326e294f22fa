use Rattle.std.proofs.Common.{ℕ, ◌≡◌, ◌<◌, length, get_or, []}
use Rattle.sessions.specs.LinesValue.{LinesState}
use Rattle.sessions.specs.ScriptLines.{HasRoom}
use Rattle.sessions.proofs.rooms.line_rooms.Given as goal

abbrev pub invariant-loop-script : goal.invariant-loop-script
invariant-loop-script l = record {
  count : length l.lines.items ≡ l.script-index;
  each : (k : ℕ) (d : LinesState) → k < l.script-index → HasRoom (get_or l.scripts k []) (get_or l.lines.items k d);
}
