-- Which latches a call needs.
use Rattle.std.specs.Prelude.{ℕ, ◌+◌, Bool, false, List, filter, Option, Some, None, ◌==◌, ◌&&◌, nat_le, nat_lt}
use Rattle.std.specs.List.{list_any, range_with_len}
use Rattle.dt_model.specs.declared.calls.Call.{Call}
use Rattle.dt_model.specs.declared.calls.Call.TheVariants.{Get, Batch, Query}
use Rattle.dt_model.specs.declared.calls.Cell.{Cell}
use Rattle.dt_model.specs.declared.declared_tensors.Decls.{Decls}
use Rattle.dt_model.specs.Tensors.{tensor_named, first_latch, latches_of_tensor, latch_of, latch_count}
use Rattle.dt_model.specs.Statements.{accesses}
use Rattle.dt_model.specs.Verdicts.{update_cell}

-- the latch of a cell
abbrev pub latch_of_cell : Decls → Cell → ℕ
latch_of_cell d cell = latch_of d cell.tensor cell.at

-- whether latch w is one of the tensor with this number, if there is one
abbrev pub is_latch_of : Decls → ℕ → Option ℕ → Bool
is_latch_of d w None = false
is_latch_of d w (Some t) = nat_le (first_latch d t) w && nat_lt w (first_latch d t + latches_of_tensor d t)

-- whether a call needs latch w: a get that of its cell, a batch those of its cells, a query all of each tensor
-- that its accesses name
abbrev pub needs : Decls → Call → ℕ → Bool
needs d (Get cell) w = latch_of_cell d cell == w
needs d (Batch updates) w = list_any (λ u. latch_of_cell d (update_cell u) == w) updates
needs d (Query s) w = list_any (λ a. is_latch_of d w (tensor_named d a.0)) (accesses s.right)

-- the latches that a call needs, ascending
abbrev pub needed_latches : Decls → Call → List ℕ
needed_latches d call = filter (needs d call) (range_with_len 0 (latch_count d))
