use Rattle.std.proofs.Common.{◌≡◌, take, false}
use Rattle.std.specs.Prelude.{◌==◌}
use Rattle.std.specs.List.{list_any}
use Rattle.dt_model.specs.Latches.{latch_of_cell}
use Rattle.dt_model.specs.Verdicts.{update_cell}
use Rattle.commit_core.proofs.latches.updates_need.Given as goal

abbrev pub invariant-loop-update : goal.invariant-loop-update
invariant-loop-update l = list_any (λ u. latch_of_cell l.decls (update_cell u) == l.latch) (take l.update-index l.updates) ≡ false
