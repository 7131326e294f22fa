use Rattle.std.proofs.Common.{◌≡◌, take, filter}
use Rattle.dt_model.specs.Verdicts.{update_cell}
use Rattle.fiber_store.specs.Fibers.{has_cell}
use Rattle.fiber_store.proofs.fibers.keep_own.Given as goal

abbrev pub invariant-loop-update : goal.invariant-loop-update
invariant-loop-update l = l.due.items ≡ filter (λ u. has_cell l.fiber (update_cell u)) (take l.update-index l.updates)
