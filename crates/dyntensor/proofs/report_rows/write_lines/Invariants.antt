use Rattle.std.proofs.Common.{◌≡◌, ◌++◌, take}
use Rattle.dt_model.specs.Texts.{text_of}
use Rattle.dyntensor.specs.Rows.{numbered_rows, outcome_rows}
use Rattle.dyntensor.proofs.report_rows.write_lines.Given as goal

abbrev pub invariant-loop-i : goal.invariant-loop-i
invariant-loop-i l = l.text.items ≡ l.fn.text.items ++ text_of (numbered_rows outcome_rows (take l.i l.outcomes))
