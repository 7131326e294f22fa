use Rattle.std.proofs.Common.{◌≡◌, drop, length, take}
use Rattle.std.specs.Prelude.{fold}
use Rattle.std.specs.List.{enumerate_from}
use Rattle.dt_model.specs.Runs.{with_lines, base_of}
use Rattle.commit_core.specs.Cells.{contents_of}
use Rattle.commit_core.specs.CellListState.{all_cells, all_orders}
use Rattle.commit_core.specs.Orders.{orders_of}
use Rattle.commit_core.proofs.tensors.load_base.Given as goal

abbrev pub invariant-loop-tensor : goal.invariant-loop-tensor
invariant-loop-tensor l = (length l.tensors.items ≡ l.tensor)
    × (all_orders l.tensors.items ≡ take l.tensor (orders_of l.world.decls))
    × (fold (λ m p. with_lines m p.0 p.1) (contents_of (all_cells l.tensors.items)) (enumerate_from l.tensor (drop l.tensor l.base)) ≡ base_of l.world)
