use Rattle.std.proofs.Common.{◌≡◌, take, true}
use Rattle.std.specs.Prelude.{◌==◌, ◌||◌, nat_le, slice_index}
use Rattle.std.specs.List.{list_all}
use Rattle.dt_model.specs.Latches.{latch_of_cell}
use Rattle.dt_model.specs.Verdicts.{update_cell}
use Rattle.commit_core.proofs.possible.holds_updates.Given as goal

abbrev pub invariant-loop-update : goal.invariant-loop-update
invariant-loop-update l = list_all (λ u. nat_le l.end (latch_of_cell l.decls (update_cell u))
    || slice_index l.holders (latch_of_cell l.decls (update_cell u)) == l.session) (take l.update-index l.updates) ≡ true
