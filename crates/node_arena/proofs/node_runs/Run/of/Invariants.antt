use Rattle.std.proofs.Common.{◌≡◌, map, take}
use Rattle.arrayvec.specs.ArrayVec.{array_vec_len}
use Rattle.node_arena.specs.Packing.{unpacked}
use Rattle.node_arena.proofs.node_runs.Run.of.Given as goal

abbrev pub invariant-loop-elem : goal.invariant-loop-elem
invariant-loop-elem g l = (map unpacked l.packed.items ≡ take l.elem-index l.elems) × (array_vec_len l.packed ≡ l.elem-index)
