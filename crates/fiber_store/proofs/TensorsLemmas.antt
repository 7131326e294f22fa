-- What a valid declaration says of a tensor's modes and latches.
use Rattle.std.proofs.Common.{◌≡◌, ℕ, ◌<◌, ◌≤◌, true, length, get_or, arith, ap, ◌∙◌, Some, nat_le}
use Rattle.std.specs.Prelude.{nat_lt, slice_get, slice_index, ◌&&◌, ◌^◌}
use Rattle.std.proofs.lemmas.Bool.Decides.{nat_tests}
use Rattle.std.proofs.lemmas.Option.{slice_get-get_or}
use Rattle.dt_model.specs.declared.declared_tensors.Decls.{Decls}
use Rattle.dt_model.specs.declared.declared_tensors.TensorDecl.{TensorDecl}
use Rattle.dt_model.specs.declared.limits.TheConstants.{MOST_ORDER}
use Rattle.dt_model.specs.Worlds.{tensor_is_valid}
use Rattle.dt_model.proofs.Booleans.{first_true, last_true, list_all-at}

positive : (n : ℕ) → nat_le 1 n ≡ true → 0 < n
positive n h = grind (arith, nat_tests)

le_of : (n m : ℕ) → nat_le n m ≡ true → n ≤ m
le_of n m h = grind (arith, nat_tests)

-- a valid tensor has a mode
pub has_mode : (d : Decls) (x : TensorDecl) → tensor_is_valid d x ≡ true → 0 < length x.dims
has_mode d x h =
    positive (length x.dims) (last_true _ _ (first_true _ _ (first_true _ _ (first_true _ _ (first_true _ _ (first_true _ _ (first_true _ _ h)))))))

-- it has few modes
pub has_few_modes : (d : Decls) (x : TensorDecl) → tensor_is_valid d x ≡ true → length x.dims ≤ MOST_ORDER
has_few_modes d x h =
    le_of (length x.dims) MOST_ORDER (last_true _ _ (first_true _ _ (first_true _ _ (first_true _ _ (first_true _ _ (first_true _ _ h))))))

-- its first dimension isn't 0
pub has_dimension : (d : Decls) (x : TensorDecl) → tensor_is_valid d x ≡ true → 0 < slice_index x.dims 0
has_dimension d x h =
    positive (slice_index x.dims 0) (first_true _ (nat_lt (slice_index x.dims 0) (2 ^ 32)) (list_all-at (λ n. nat_le 1 n
    && nat_lt n (2 ^ 32)) x.dims 0 0 (has_mode d x h) (last_true _ _ (first_true _ _ (first_true _ _ (first_true _ _ (first_true _ _ h)))))))

-- it has a latch
pub has_latch : (d : Decls) (x : TensorDecl) → tensor_is_valid d x ≡ true → 0 < x.latches
has_latch d x h = positive x.latches (last_true _ _ (first_true _ _ h))

-- the tensor that was read is the one that is looked up
pub looked_up : (d : Decls) (t : ℕ) (x : TensorDecl) → t < length d.tensors → get_or d.tensors t x ≡ x → slice_get d.tensors t ≡ Some x
looked_up d t x l same = slice_get-get_or d.tensors t x l ∙ ap Some same
