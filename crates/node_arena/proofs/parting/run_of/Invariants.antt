use Rattle.std.proofs.Common.{◌≡◌, map, take}
use Rattle.node_arena.specs.Packing.{unpacked}
use Rattle.node_arena.proofs.parting.run_of.Given as goal

abbrev pub invariant-loop-elem : goal.invariant-loop-elem
invariant-loop-elem l = l.run.items ≡ map unpacked (take l.elem-index l.packed)
