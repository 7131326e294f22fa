use Rattle.node_arena.specs.Trees.{Trees}
use Rattle.block_list.specs.Filling.{LeadsInto}
use Rattle.block_list.proofs.tests.read_chain.Given as goal

abbrev pub invariant-loop-number : goal.invariant-loop-number
invariant-loop-number l = (t : Trees) × LeadsInto l.arena l.here t
