-- What a call reads, and whether the cells of its updates are in range.
use Rattle.std.specs.Prelude.{ℕ, Bool, List, Option, Some, None}
use Rattle.std.specs.List.{list_all}
use Rattle.dt_model.specs.declared.calls.Update.{Update}
use Rattle.dt_model.specs.declared.calls.Call.{Call}
use Rattle.dt_model.specs.declared.calls.Call.TheVariants.{Get, Batch, Query}
use Rattle.dt_model.specs.declared.declared_tensors.Decls.{Decls}
use Rattle.dt_model.specs.Contents.{Contents}
use Rattle.dt_model.specs.Verdicts.{cell_is_valid, update_cell}

-- whether each update's cell is in range
abbrev pub updates_are_valid : Decls → List Update → Bool
updates_are_valid d updates = list_all (λ u. cell_is_valid d (update_cell u)) updates

-- what a call reads from these contents: a get its cell's number, other calls nothing
abbrev pub read_from : Contents → Call → Option ℕ
read_from m (Get cell) = Some (m cell.tensor cell.at)
read_from m (Batch updates) = None
read_from m (Query stmt) = None
