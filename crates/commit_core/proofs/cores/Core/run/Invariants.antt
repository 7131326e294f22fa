use Rattle.std.proofs.Common.{◌≡◌, take}
use Rattle.commit_core.specs.Events.{run_of}
use Rattle.commit_core.specs.State.{progress_of}
use Rattle.commit_core.specs.Sound.{IsSound}
use Rattle.commit_core.proofs.cores.Core.run.Given as goal

abbrev pub invariant-loop-event : goal.invariant-loop-event
invariant-loop-event l = (l.core.world ≡ l.world) × (progress_of l.core ≡ run_of l.world (take l.event-index l.events))
    × IsSound l.core.world (progress_of l.core)
