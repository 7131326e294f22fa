use Rattle.std.proofs.Common.{◌≡◌, take}
use Rattle.dt_model.proofs.declared_tensors.Decls.copy.Given as goal

abbrev pub invariant-loop-schema : goal.invariant-loop-schema
invariant-loop-schema l = l.schemas ≡ take l.schema-index l.schema-items

abbrev pub invariant-loop-tensor : goal.invariant-loop-tensor
invariant-loop-tensor l = l.tensors ≡ take l.tensor-index l.tensor-items
