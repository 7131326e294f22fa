use Rattle.std.proofs.Common.{◌++◌, ◌+◌, ◌∙◌, sym, ap}
use Rattle.dt_model.specs.Texts.{text_of}
use Rattle.dyntensor.specs.Rows.{outcomes_rows}
use Rattle.dyntensor.proofs.NumberedLemmas.{numbered_text-more}
use Rattle.dyntensor.proofs.report_rows.write_sessions.Goals as goal

pub loop-i-preserved : goal.loop-i-preserved
loop-i-preserved c =
    let i = c.loop-i.i in
    numbered_text-more outcomes_rows c.args.sessions.now i c.index-sessions-i.result c.args.text.now.items c.loop-i.text.items
    c.write_outcomes.new.text.items c.loop-i-test.true (sym c.index-sessions-i.is) c.loop-i.invariant
    (c.in_ok-write_outcomes.ensures.ok ∙ ap (λ lines. c.loop-i.text.items ++ text_of (outcomes_rows (i + 1) lines)) c.as_slice.ensures.value)
