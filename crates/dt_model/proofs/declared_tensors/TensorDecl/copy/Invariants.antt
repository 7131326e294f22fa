use Rattle.std.proofs.Common.{◌≡◌, take}
use Rattle.dt_model.proofs.declared_tensors.TensorDecl.copy.Given as goal

abbrev pub invariant-loop-format : goal.invariant-loop-format
invariant-loop-format l = l.formats.items ≡ take l.format-index l.format-items
