use Rattle.std.proofs.Common.{◌≡◌, map, take}
use Rattle.arrayvec.specs.ArrayVec.{array_vec_len}
use Rattle.node_arena.specs.Kinds.{numbered}
use Rattle.node_arena.proofs.kinds.kinds_of.Given as goal

abbrev pub invariant-loop-kind : goal.invariant-loop-kind
invariant-loop-kind l = (l.all.items ≡ map (numbered l.kinds) (take l.kind-index l.kinds)) × (array_vec_len l.all ≡ l.kind-index)
