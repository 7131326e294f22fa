use Rattle.std.proofs.Common.{◌-◌}
use Rattle.node_arena.specs.Arenas.{node_at}
use Rattle.node_arena.specs.Passing.{CanPutIn}
use Rattle.node_arena.specs.Trees.{Trees}
use Rattle.block_list.specs.Chains.{Comes, first_at}
use Rattle.block_list.proofs.chains.find.Given as goal

abbrev pub invariant-along : goal.invariant-along
invariant-along l = (t : Trees) → CanPutIn l.kinds l.arena l.elem l.initial.here t → Comes l.kinds l.arena l.elem l.here t

abbrev pub decreases-along : goal.decreases-along
decreases-along l = l.elem.at - first_at (node_at l.arena l.here)
