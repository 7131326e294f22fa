-- The verdict on a written call: the call that it asks for, or the first reason to refuse it; and which calls are valid.
use Rattle.std.specs.Prelude.{ℕ, ◌-◌, Bool, true, false, not, List, [], ◌∷◌, ◌++◌, map}
use Rattle.std.specs.Prelude.{length, Option, Some, None, ◌&&◌, nat_lt, nat_le, nat_eq, is_none, unwrap_or}
use Rattle.std.specs.List.{list_any, list_all, flat_map, range_with_len}
use Rattle.std.specs.Cmp.Lexicographic.{pointwise}
use Rattle.dt_model.specs.declared.statements.Stmt.{Stmt}
use Rattle.dt_model.specs.declared.calls.Cell.{Cell}
use Rattle.dt_model.specs.declared.calls.Update.{Update}
use Rattle.dt_model.specs.declared.calls.Update.TheVariants.{Set, Add}
use Rattle.dt_model.specs.declared.calls.Call.{Call}
use Rattle.dt_model.specs.declared.calls.Call.TheVariants.{Get, Batch, Query}
use Rattle.dt_model.specs.declared.declared_tensors.Decls.{Decls}
use Rattle.dt_model.specs.declared.replies.Refusal.{Refusal}
use Rattle.dt_model.specs.declared.replies.Verdict.{Verdict}
use Rattle.dt_model.specs.declared.replies.Verdict.TheVariants.{Accepted, Refused}
use Rattle.dt_model.specs.Tensors.{tensor_named, dims_of}
use Rattle.dt_model.specs.Statements.{accesses, literals, distinct_after}
use Rattle.dt_model.specs.declared.written.WrittenNumber.{WrittenNumber}
use Rattle.dt_model.specs.declared.written.WrittenNumber.TheVariants as number
use Rattle.dt_model.specs.declared.written.WrittenCoordinate.{WrittenCoordinate}
use Rattle.dt_model.specs.declared.written.WrittenCoordinate.TheVariants as coordinate
use Rattle.dt_model.specs.declared.written.UpdateKind.{UpdateKind}
use Rattle.dt_model.specs.declared.written.UpdateKind.TheVariants as kind
use Rattle.dt_model.specs.declared.written.WrittenUpdate.{WrittenUpdate}
use Rattle.dt_model.specs.declared.written.WrittenCall.{WrittenCall}
use Rattle.dt_model.specs.declared.written.WrittenCall.TheVariants as written
use Rattle.dt_model.specs.declared.limits.TheConstants.{MOST_UPDATES, MOST_ACCESSES, MOST_LITERALS, MOST_VARIABLES}
use Rattle.dt_model.specs.Refusals.{first_of_all, cell_fault, update_fault, statement_fault}

-- ---- calls

-- the number of the tensor with this name
abbrev pub tensor_number : Decls → List ℕ → ℕ
tensor_number d name = unwrap_or (tensor_named d name) 0

-- a written coordinate, counted from 0
abbrev pub from_zero : WrittenCoordinate → ℕ
from_zero (coordinate.Number n) = n - 1
from_zero coordinate.Huge = 0

-- the cell with this name and these coordinates
abbrev pub cell_of : Decls → List ℕ → List WrittenCoordinate → Cell
cell_of d name coordinates = record { tensor = tensor_number d name; at = map from_zero coordinates }

-- the value of a written number, if a call can hold it
abbrev pub written_value : WrittenNumber → ℕ
written_value (number.Whole v) = v
written_value number.Fraction = 0
written_value number.Huge = 0

-- an update of this kind
abbrev pub update_of_kind : UpdateKind → Cell → ℕ → Update
update_of_kind kind.Set cell v = Set cell v
update_of_kind kind.Add cell v = Add cell v

-- the update that is written
abbrev pub update_of : Decls → WrittenUpdate → Update
update_of d u = update_of_kind u.kind (cell_of d u.name u.coordinates) (written_value u.number)

-- the call, unless there is a refusal
abbrev pub unless_refused : Option Refusal → Call → Verdict
unless_refused None call = Accepted call
unless_refused (Some r) call = Refused r

-- the verdict on a written call: the call that it asks for, or the first reason to refuse it
abbrev pub verdict : Decls → WrittenCall → Verdict
verdict d (written.Get name coordinates) = unless_refused (cell_fault d name coordinates) (Get (cell_of d name coordinates))
verdict d (written.Batch updates) = unless_refused (first_of_all (map (update_fault d) updates)) (Batch (map (update_of d) updates))
verdict d (written.Query s) = unless_refused (statement_fault d s) (Query s)

-- ---- calls that may be made

-- whether there is a coordinate for each dimension, and each is below it
abbrev pub all_in_range : List ℕ → List ℕ → Bool
all_in_range [] [] = true
all_in_range (d ∷ ds) (c ∷ cs) = nat_lt c d && all_in_range ds cs
all_in_range ds cs = false

-- whether a cell's tensor is declared and its coordinates are in range
abbrev pub cell_is_valid : Decls → Cell → Bool
cell_is_valid d cell = nat_lt cell.tensor (length d.tensors) && all_in_range (dims_of d cell.tensor) cell.at

-- the cell of an update
abbrev pub update_cell : Update → Cell
update_cell (Set cell v) = cell
update_cell (Add cell v) = cell

-- whether no name is there twice
abbrev pub names_differ : List (List ℕ) → Bool
names_differ [] = true
names_differ (n ∷ ns) = not (list_any (pointwise nat_eq n) ns) && names_differ ns

-- the variables of a statement in the order in which they are written: the left side's, then those of each access
abbrev pub places_of : Stmt → List ℕ
places_of s = s.left ++ flat_map (λ a. a.1) (accesses s.right)

-- each variable is named once, and `vars` has them by first appearance
abbrev pub is_by_appearance : Stmt → Bool
is_by_appearance s = names_differ s.vars.items && pointwise nat_eq (distinct_after [] (places_of s)) (range_with_len 0 (length s.vars.items))

-- the limits on accesses, literals and variables are met, and the variables are listed by first appearance
abbrev pub is_small : Stmt → Bool
is_small s = nat_le (length (accesses s.right)) MOST_ACCESSES && nat_le (length (literals s.right)) MOST_LITERALS && nat_le (length s.vars.items) MOST_VARIABLES
    && is_by_appearance s

-- whether a call may be made: its cells are valid, a batch has 1 to 64 updates, a statement is small and not refused
abbrev pub call_is_valid : Decls → Call → Bool
call_is_valid d (Get cell) = cell_is_valid d cell
call_is_valid d (Batch updates) = nat_le 1 (length updates) && nat_le (length updates) MOST_UPDATES && list_all (λ u. cell_is_valid d (update_cell u)) updates
call_is_valid d (Query s) = is_small s && is_none (statement_fault d s)
