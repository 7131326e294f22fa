-- Which cells are a fiber's, what is written among cells, and what holds inside a store. No public clause cites this module.
use Rattle.std.specs.Prelude.{ℕ, ◌+◌, ◌/◌, ◌%◌, ◌^◌, ◌<◌, ◌≤◌, ◌≡◌, ◌==◌, ◌&&◌, ◌⊎◌, Bool, List, length, All, IsTrue, slice_index, slice_set}
use Rattle.std.specs.List.{insert}
use Rattle.commit_core.specs.Cells.{Cells, IsAt, IsGapFor}
use Rattle.dt_model.specs.declared.calls.Cell.{Cell}
use Rattle.dt_model.specs.declared.calls.Update.{Update}
use Rattle.dt_model.specs.declared.calls.Update.TheVariants.{Set, Add}
use Rattle.dt_model.specs.Packed.{PackedState}
use Rattle.dt_model.specs.Pairs.{IsAscending}
use Rattle.dt_model.specs.Verdicts.{all_in_range, update_cell}
use Rattle.fiber_store.specs.declared.fibers.Fiber.{Fiber}
use Rattle.fiber_store.specs.Stores.{StoreState}

-- whether a cell is one of the fiber's: of its tensor, in range, and with a leading coordinate of the fiber
abbrev pub has_cell : Fiber → Cell → Bool
has_cell f cell = (cell.tensor == f.tensor) && all_in_range f.dims cell.at && (slice_index cell.at 0 / f.width == f.number)

-- what contracts see of a fiber's store with these cells and due updates
abbrev pub state_of : Fiber → Cells → List Update → StoreState
state_of f cells due = record { tensor = f.tensor; dims = f.dims; width = f.width; fiber = f.number; cells = cells; due = due }

-- the number that an update leaves in its cell, where the numbers are these before
abbrev pub number_after : (List ℕ → ℕ) → Update → ℕ
number_after m (Set cell v) = v
number_after m (Add cell v) = (m cell.at + v) % 2 ^ 64

-- the number v is written over that of the cell at c, or a new cell is put into the gap for it
abbrev pub Writes : Cells → Cells → List ℕ → ℕ → Type 0
Writes old new c v = ((i : ℕ) × IsAt old c i × (new ≡ slice_set old i (c, v))) ⊎ ((i : ℕ) × IsGapFor old c i × (new ≡ insert old i (c, v)))

-- the cells ascend and have the tensor's order, the due updates are of the fiber's cells, and there is room for a new cell each
pub record IsWhole (f : Fiber) (cells : PackedState) (due : List Update) : Type 0 where
  pub width : 0 < f.width
  pub modes : 0 < length f.dims
  pub order : cells.order ≡ length f.dims
  pub ascending : IsAscending cells.pairs
  pub own : All (λ u. IsTrue (has_cell f (update_cell u))) due
  pub room : length due ≤ cells.spare
