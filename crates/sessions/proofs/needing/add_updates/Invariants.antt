use Rattle.std.proofs.Common.{◌≡◌, map, take}
use Rattle.dt_model.specs.Latches.{latch_of_cell}
use Rattle.dt_model.specs.Verdicts.{update_cell}
use Rattle.sessions.specs.Needing.{one_latch}
use Rattle.sessions.proofs.needing.add_updates.Given as goal

abbrev pub invariant-loop-update : goal.invariant-loop-update
invariant-loop-update l = l.ranges.items ≡ map (λ u. one_latch (latch_of_cell l.decls (update_cell u))) (take l.update-index l.updates)
