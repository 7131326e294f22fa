-- The latches of tensors in order.
use Rattle.std.proofs.Common.{◌≡◌, ℕ, ◌+◌, ◌<◌, ◌≤◌, length, subst, take, sum_by, get_or}
use Rattle.std.proofs.lemmas.List.Sums.{sum_by_more_le}
use Rattle.dt_model.specs.declared.declared_tensors.Decls.{Decls}
use Rattle.dt_model.specs.declared.declared_tensors.TensorDecl.{TensorDecl}
use Rattle.dt_model.specs.Tensors.{latch_count}

-- the latches of a tensor and of those before it are among all
pub first_latch-le : (d : Decls) (t : ℕ) (x : TensorDecl) → t < length d.tensors → get_or d.tensors t x ≡ x
    → sum_by (λ y. y.latches) (take t d.tensors) + x.latches ≤ latch_count d
first_latch-le d t x l same = subst (λ y. sum_by (λ z. z.latches) (take t d.tensors)
    + y.latches ≤ latch_count d) same (sum_by_more_le (λ y. y.latches) d.tensors t x l)
