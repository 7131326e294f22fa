-- What a valid call says of the tensors of its cells.
use Rattle.std.proofs.Common.{◌≡◌, ℕ, true, length, arith, get_or}
use Rattle.std.specs.Prelude.{◌&&◌, nat_le, nat_lt}
use Rattle.std.specs.List.{list_all}
use Rattle.std.proofs.lemmas.Bool.Decides.{nat_tests}
use Rattle.dt_model.specs.declared.calls.Call.{Call}
use Rattle.dt_model.specs.declared.calls.Call.TheVariants.{Get, Batch, Query}
use Rattle.dt_model.specs.declared.declared_tensors.Decls.{Decls}
use Rattle.dt_model.specs.declared.limits.TheConstants.{MOST_UPDATES}
use Rattle.dt_model.specs.Calls.{IsWithin}
use Rattle.dt_model.specs.Tensors.{dims_of}
use Rattle.dt_model.specs.Verdicts.{call_is_valid, cell_is_valid, all_in_range, update_cell}
use Rattle.dt_model.proofs.Booleans.{first_true, last_true, list_all-at}

-- the cells of a valid call are of the declared tensors
pub IsWithin-valid : (d : Decls) (n : ℕ) (call : Call) → length d.tensors ≡ n → call_is_valid d call ≡ true → IsWithin n call
IsWithin-valid d n (Get cell) e h =
    let less : nat_lt cell.tensor (length d.tensors) ≡ true =
    first_true (nat_lt cell.tensor (length d.tensors)) (all_in_range (dims_of d cell.tensor) cell.at) h in
    grind (arith, nat_tests)
IsWithin-valid d n (Batch updates) e h = λ k u l.
    let all = last_true (nat_le 1 (length updates) && nat_le (length updates) MOST_UPDATES) (list_all (λ x. cell_is_valid d (update_cell x)) updates) h in
    let cell = update_cell (get_or updates k u) in
    let less : nat_lt cell.tensor (length d.tensors) ≡ true =
    first_true (nat_lt cell.tensor (length d.tensors)) (all_in_range (dims_of d cell.tensor) cell.at)
    (list_all-at (λ x. cell_is_valid d (update_cell x)) updates k u l all) in
    grind (arith, nat_tests)
IsWithin-valid d n (Query stmt) e h = tt
