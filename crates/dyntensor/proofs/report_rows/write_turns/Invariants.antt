use Rattle.std.proofs.Common.{◌≡◌, ◌++◌, take}
use Rattle.std.specs.Prelude.{map}
use Rattle.dt_model.specs.Texts.{text_of}
use Rattle.dt_model.specs.Report.{turn_row}
use Rattle.dyntensor.proofs.report_rows.write_turns.Given as goal

abbrev pub invariant-loop-entry : goal.invariant-loop-entry
invariant-loop-entry l = l.text.items ≡ l.fn.text.items ++ text_of (map turn_row (take l.entry-index l.entries))
