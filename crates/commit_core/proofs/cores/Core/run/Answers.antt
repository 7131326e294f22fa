use Rattle.std.proofs.Common.{◌∙◌, ap, Err}
use Rattle.commit_core.proofs.CoreSteps.{run_on, run_past}
use Rattle.commit_core.proofs.cores.Core.run.Goals as goal
use Rattle.commit_core.proofs.cores.Core.run.Goals.{in-Ok, in-Err-NotPossible}

pub loop-event-preserved : goal.loop-event-preserved
loop-event-preserved c = (
  c.step.ensures.world ∙ c.loop-event.invariant.0,
  elim c.match-step.branch [
    | in-Ok w ↦ run_on c.args.world.now c.args.events.now c.loop-event.event-index _ c.loop-event.core c.step.new.self c.loop-event-test.true
        c.loop-event.invariant.0 c.loop-event.invariant.1 w.in-Ok.ensures.possible w.in-Ok.ensures.ok
    | in-Err-NotPossible w ↦ run_past c.args.world.now c.args.events.now c.loop-event.event-index _ c.loop-event.core c.step.new.self c.loop-event-test.true
        c.loop-event.invariant.0 c.loop-event.invariant.1
        (w.in-Err-NotPossible.ensures.not_possible.0 (ap Err w.in-Err-NotPossible.field-0-is)) w.in-Err-NotPossible.ensures.err
  ],
  c.step.ensures.sound,
)
