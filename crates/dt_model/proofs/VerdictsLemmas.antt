-- What a valid cell says of its tensor and of its coordinates.
use Rattle.std.proofs.Common.{◌≡◌, ◌<◌, length, ap, subst, ◌∙◌, arith, Some, IsTrue, nat_lt, get_or}
use Rattle.std.specs.Prelude.{slice_get}
use Rattle.std.proofs.lemmas.Bool.Decides.{nat_tests}
use Rattle.std.proofs.lemmas.Option.{slice_get-get_or}
use Rattle.dt_model.specs.declared.declared_tensors.Decls.{Decls}
use Rattle.dt_model.specs.declared.declared_tensors.TensorDecl.{TensorDecl}
use Rattle.dt_model.specs.declared.calls.Cell.{Cell}
use Rattle.dt_model.specs.Tensors.{dims_of, dims_in}
use Rattle.dt_model.specs.Verdicts.{all_in_range, cell_is_valid}
use Rattle.dt_model.proofs.Booleans.{both_true}

-- the cell's tensor is declared
pub is_declared : (d : Decls) (cell : Cell) → IsTrue (cell_is_valid d cell) → cell.tensor < length d.tensors
is_declared d cell h = let both = both_true (nat_lt cell.tensor (length d.tensors)) (all_in_range (dims_of d cell.tensor) cell.at) h in grind (arith, nat_tests)

-- the cell's tensor, looked up
pub found_at : (d : Decls) (cell : Cell) (x : TensorDecl) → IsTrue (cell_is_valid d cell) → get_or d.tensors cell.tensor x ≡ x
    → slice_get d.tensors cell.tensor ≡ Some x
found_at d cell x h e = slice_get-get_or d.tensors cell.tensor x (is_declared d cell h) ∙ ap Some e

-- the cell is in range of its tensor
pub is_in_range : (d : Decls) (cell : Cell) (x : TensorDecl) → IsTrue (cell_is_valid d cell) → get_or d.tensors cell.tensor x ≡ x
    → IsTrue (all_in_range x.dims cell.at)
is_in_range d cell x h e =
    let both = both_true (nat_lt cell.tensor (length d.tensors)) (all_in_range (dims_of d cell.tensor) cell.at) h in
    subst (λ o. IsTrue (all_in_range (dims_in o) cell.at)) (found_at d cell x h e) both.1
