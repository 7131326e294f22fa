-- What contracts see of a tensor's cells: their order, their list, and how many more there is room for.
use Rattle.std.specs.Prelude.{ℕ, ◌≤◌, List, map, All}
use Rattle.commit_core.specs.Cells.{Cells}

-- how many coordinates each cell has; the cells in ascending order; and the room that is left
pub record CellListState : Type 0 where
  pub order : ℕ
  pub cells : Cells
  pub spare : ℕ

-- the cells of each tensor, without the room
abbrev pub all_cells : List CellListState → List Cells
all_cells tensors = map (λ t. t.cells) tensors

-- the order of each tensor
abbrev pub all_orders : List CellListState → List ℕ
all_orders tensors = map (λ t. t.order) tensors

-- each tensor has room for n more cells
abbrev pub HaveRoom : ℕ → List CellListState → Type 0
HaveRoom n tensors = All (λ t. n ≤ t.spare) tensors
