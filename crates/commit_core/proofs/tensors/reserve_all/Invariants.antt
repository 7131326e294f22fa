use Rattle.std.proofs.Common.{◌≡◌, ℕ, ◌<◌, ◌≤◌, get_or}
use Rattle.commit_core.specs.CellListState.{CellListState, all_cells, all_orders}
use Rattle.commit_core.proofs.tensors.reserve_all.Given as goal

abbrev pub invariant-loop-i : goal.invariant-loop-i
invariant-loop-i l = (all_cells l.tensors ≡ all_cells l.fn.tensors) × (all_orders l.tensors ≡ all_orders l.fn.tensors)
    × ((k : ℕ) (d : CellListState) → k < l.i → l.more ≤ (get_or l.tensors k d).spare)
