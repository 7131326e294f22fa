use Rattle.std.proofs.Common.{subst, Some}
use Rattle.dt_model.specs.Report.{PrintsRun}
use Rattle.dyntensor.specs.declared.outcomes.Outcome.TheVariants.{Report}
use Rattle.dyntensor.specs.Outcome.{HasCause}
use Rattle.dyntensor.proofs.drivers.outcome_of.Goals as goal

pub returns-in-Ok-run_report-clause-cause : goal.returns-in-Ok-run_report-clause-cause
returns-in-Ok-run_report-clause-cause g c =
    subst (λ m. HasCause m (g.S.Shelf.state c.args.shelf.now) (g.S.Shelf.state c.read_workload.new.shelf) (Some c.in-Ok-run_report.closed)
    (Report c.in-Ok-run_report.text))
    c.in-Some.ensures.value (record {
      work = record { world = c.in-Ok.world; printed = c.in-Ok.printed.items };
      asked = c.in-Ok.ensures.work;
      printed = subst (λ printed. PrintsRun c.in-Ok.world printed c.in-Ok-run_report.text.items) c.as_slice.ensures.value c.in-Ok-run_report.ensures.printed;
      left = c.in-Ok-run_report.ensures.left;
    })
