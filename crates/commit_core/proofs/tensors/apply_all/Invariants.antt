use Rattle.std.proofs.Common.{◌≡◌, ℕ, ◌+◌, ◌≤◌, take, length}
use Rattle.dt_model.specs.Contents.{with_updates}
use Rattle.commit_core.specs.Cells.{contents_of}
use Rattle.commit_core.specs.CellListState.{all_cells, all_orders, HaveRoom}
use Rattle.commit_core.proofs.tensors.apply_all.Given as goal

abbrev pub invariant-loop-update : goal.invariant-loop-update
invariant-loop-update l = (contents_of (all_cells l.tensors) ≡ with_updates (contents_of (all_cells l.fn.tensors)) (take l.update-index l.updates))
    × (all_orders l.tensors ≡ all_orders l.fn.tensors)
    × ((n : ℕ) → n + l.update-index ≤ length l.updates → HaveRoom n l.tensors)
