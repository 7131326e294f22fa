use Rattle.std.proofs.Common.{sym}
use Rattle.dyntensor.specs.Rows.{outcome_rows}
use Rattle.dyntensor.proofs.NumberedLemmas.{numbered_text-more}
use Rattle.dyntensor.proofs.report_rows.write_lines.Goals as goal

pub loop-i-preserved : goal.loop-i-preserved
loop-i-preserved c = numbered_text-more outcome_rows c.args.outcomes.now c.loop-i.i c.index-outcomes-i.result c.args.text.now.items c.loop-i.text.items
    c.write_line.new.text.items c.loop-i-test.true (sym c.index-outcomes-i.is) c.loop-i.invariant c.in_ok-write_line.ensures.ok
