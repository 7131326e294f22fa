use Rattle.std.proofs.Common.{◌≡◌, take}
use Rattle.node_arena.specs.Kinds.{longest_of}
use Rattle.node_arena.proofs.kinds.longest_of.Given as goal

abbrev pub invariant-loop-kind : goal.invariant-loop-kind
invariant-loop-kind l = l.longest ≡ longest_of (take l.kind-index l.kinds)
