use Rattle.std.proofs.Common.{◌++◌, ◌∙◌, ap}
use Rattle.dt_model.specs.JournalValue.{JournalValue}
use Rattle.dt_model.specs.Texts.{text_of}
use Rattle.dt_model.specs.Report.{history_rows, session_rows}
use Rattle.std.specs.List.{flat_map, enumerate_from}
use Rattle.dyntensor.proofs.ReportTexts.{report_text, PrintsRun-finished, IsLeftBy-history}
use Rattle.dyntensor.proofs.runs.run_report.Goals as goal

pub returns : goal.returns
returns g c =
    let w = c.args.world.now in
    let closed = c.in_ok-closed.closed in
    let es = closed.journal.entries in
    let is = report_text w c.args.printed.now es c.run_world.new.text.items c.write_history.new.text.items c.write_tensors.new.text.items
    (c.in_ok-closed.ensures.rows ∙ ap (λ t. t ++ text_of (flat_map (session_rows w es) (enumerate_from 1 w.scripts))) c.new-text.ensures.items)
    (c.in_ok-write_history.ensures.ok ∙ ap (λ es. c.run_world.new.text.items ++ text_of (history_rows es))
    (c.as_slice.ensures.value ∙ ap (λ (j : JournalValue). j.entries) c.journal.ensures.value))
    c.in_ok-write_tensors.ensures.rows in
    record {
      printed = PrintsRun-finished w c.args.printed.now c.write_tensors.new.text.items closed c.requires.runnable c.in_ok-closed.ensures.finished is;
      left = IsLeftBy-history w c.args.printed.now c.write_tensors.new.text.items closed c.requires.runnable c.in_ok-closed.ensures.finished is;
    }
