use Rattle.std.proofs.Common.{◌≡◌, sum_by, take}
use Rattle.dt_model.proofs.latches.total_latches.Given as goal

abbrev pub invariant-loop-tensor : goal.invariant-loop-tensor
invariant-loop-tensor l = l.sum ≡ sum_by (λ t. t.latches) (take l.tensor-index l.tensors)
