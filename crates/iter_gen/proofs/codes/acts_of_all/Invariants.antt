use Rattle.std.proofs.Common.{◌≡◌, map, take}
use Rattle.arrayvec.specs.ArrayVec.{array_vec_len}
use Rattle.node_arena.specs.declared.kinds.NodeKind.{NodeKind}
use Rattle.iter_gen.specs.Acts.{acts_of}
use Rattle.iter_gen.proofs.codes.acts_of_all.Given as goal

abbrev pub invariant-loop-kind : goal.invariant-loop-kind
invariant-loop-kind l =
    (map (λ a. a.items) l.all.items ≡ map (λ (k : NodeKind). acts_of k.shape) (take l.kind-index l.kinds)) × (array_vec_len l.all ≡ l.kind-index)
