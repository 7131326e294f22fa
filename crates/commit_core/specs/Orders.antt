-- Which cells have the order of their tensor.
use Rattle.std.specs.Prelude.{ℕ, ◌≡◌, List, length, map, slice_get, Some, All}
use Rattle.dt_model.specs.declared.calls.Call.{Call}
use Rattle.dt_model.specs.declared.calls.Call.TheVariants.{Get, Batch, Query}
use Rattle.dt_model.specs.declared.calls.Cell.{Cell}
use Rattle.dt_model.specs.declared.declared_tensors.Decls.{Decls}
use Rattle.dt_model.specs.Verdicts.{update_cell}

-- the order of each declared tensor
abbrev pub orders_of : Decls → List ℕ
orders_of d = map (λ t. length t.dims) d.tensors

-- the cell is one of the tensors with these orders, and has as many coordinates
abbrev pub IsCellOf : List ℕ → Cell → Type 0
IsCellOf orders cell = slice_get orders cell.tensor ≡ Some (length cell.at)

-- each cell of the call is one of the tensors with these orders
abbrev pub IsCallOf : List ℕ → Call → Type 0
IsCallOf orders (Get cell) = IsCellOf orders cell
IsCallOf orders (Batch updates) = All (λ u. IsCellOf orders (update_cell u)) updates
IsCallOf orders (Query stmt) = Unit {0}
