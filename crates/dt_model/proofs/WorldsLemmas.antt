-- What valid declarations and a valid World say of tensors, of their latches and of loaded lines.
use Rattle.std.proofs.Common.{◌≡◌, ℕ, ◌<◌, ◌≤◌, true, length, subst, inl, inr, arith, Some, IsTrue, nat_le, get_or}
use Rattle.std.specs.Prelude.{slice_get}
use Rattle.std.specs.List.{list_all}
use Rattle.std.proofs.lemmas.Bool.Decides.{nat_tests}
use Rattle.std.proofs.lemmas.Option.{slice_get_cases}
use Rattle.dt_model.specs.declared.declared_tensors.Decls.{Decls}
use Rattle.dt_model.specs.declared.declared_tensors.TensorDecl.{TensorDecl}
use Rattle.dt_model.specs.declared.calls.Cell.{Cell}
use Rattle.dt_model.specs.declared.limits.TheConstants.{MOST_LATCHES}
use Rattle.dt_model.specs.Tensors.{latch_count}
use Rattle.dt_model.specs.Verdicts.{cell_is_valid}
use Rattle.dt_model.specs.Worlds.{decls_are_valid, tensor_is_valid, IsValid}
use Rattle.dt_model.specs.Flat.{flat_schema}
use Rattle.dt_model.specs.Names.{is_name}
use Rattle.dt_model.specs.Report.{name_in}
use Rattle.dt_model.proofs.Booleans.{first_true, last_true, list_all-at}
use Rattle.dt_model.specs.declared.replies.World.{World}
use Rattle.dt_model.proofs.FlatLemmas.{begins_with_flat-true}
use Rattle.dt_model.proofs.VerdictsLemmas.{is_declared}

-- schema number 0 is `flat`
pub flat_is_first : (d : Decls) → IsTrue (decls_are_valid d) → slice_get d.schemas 0 ≡ Some flat_schema
flat_is_first d h = begins_with_flat-true d.schemas
    (first_true _ _ (first_true _ _ (first_true _ _ (first_true _ _ (first_true _ _ (first_true _ _ h))))))

-- the latches of all tensors are few
pub latches_are_few : (d : Decls) → IsTrue (decls_are_valid d) → latch_count d ≤ MOST_LATCHES
latches_are_few d h = let few : nat_le (latch_count d) MOST_LATCHES ≡ true = last_true _ (nat_le (latch_count d) MOST_LATCHES) h in grind (arith, nat_tests)

-- each tensor is valid
pub tensor_is_valid_at : (d : Decls) (t : ℕ) (x : TensorDecl) → IsTrue (decls_are_valid d) → t < length d.tensors → get_or d.tensors t x ≡ x
    → tensor_is_valid d x ≡ true
tensor_is_valid_at d t x h l same =
    let all : list_all (tensor_is_valid d) d.tensors ≡ true =
    last_true _ (list_all (tensor_is_valid d) d.tensors) (first_true _ (nat_le (latch_count d) MOST_LATCHES) h) in
    subst (λ y. tensor_is_valid d y ≡ true) same (list_all-at (tensor_is_valid d) d.tensors t x l all)

-- each declared tensor's name is a name
pub name_at : (d : Decls) (t : ℕ) → IsTrue (decls_are_valid d) → t < length d.tensors → is_name (name_in (slice_get d.tensors t)) ≡ true
name_at d t h l = elim (slice_get_cases d.tensors t).1 [
  | inl found ↦
      let valid : tensor_is_valid d found.0 ≡ true = tensor_is_valid_at d t found.0 h l found.3 in
      let named : is_name found.0.name ≡ true =
      first_true _ _ (first_true _ _ (first_true _ _ (first_true _ _ (first_true _ _ (first_true _ _ (first_true _ _ valid)))))) in
      rw found.2 named
  | inr past ↦ let over : length d.tensors ≤ t = past.0 in absurd (omega arith)
]

positive : (n : ℕ) → nat_le 1 n ≡ true → 0 < n
positive n h = grind (arith, nat_tests)

has_mode : (d : Decls) (x : TensorDecl) → tensor_is_valid d x ≡ true → 0 < length x.dims
has_mode d x h =
    positive (length x.dims) (last_true _ _ (first_true _ _ (first_true _ _ (first_true _ _ (first_true _ _ (first_true _ _ (first_true _ _ h)))))))

has_latch : (d : Decls) (x : TensorDecl) → tensor_is_valid d x ≡ true → 0 < x.latches
has_latch d x h =
    positive x.latches (last_true _ _ (first_true _ _ h))

-- the cell's tensor has a mode
pub has_mode_at : (d : Decls) (cell : Cell) (x : TensorDecl) → IsTrue (decls_are_valid d) → IsTrue (cell_is_valid d cell) → get_or d.tensors cell.tensor x ≡ x
    → 0 < length x.dims
has_mode_at d cell x h k e = has_mode d x (tensor_is_valid_at d cell.tensor x h (is_declared d cell k) e)

-- the cell's tensor has a latch
pub has_latch_at : (d : Decls) (cell : Cell) (x : TensorDecl) → IsTrue (decls_are_valid d) → IsTrue (cell_is_valid d cell)
    → get_or d.tensors cell.tensor x ≡ x → 0 < x.latches
has_latch_at d cell x h k e = has_latch d x (tensor_is_valid_at d cell.tensor x h (is_declared d cell k) e)

-- a valid World has loaded lines for each declared tensor
pub as_many_bases : (w : World) → IsValid w → length w.decls.tensors ≡ length w.base
as_many_bases w valid = let h = valid.tensors in grind (arith, nat_tests)
