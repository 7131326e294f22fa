use Rattle.std.proofs.Common.{◌<◌, ◌-◌, IsSome}
use Rattle.node_arena.specs.declared.elements.TheConstants.{MOST_SPINE}
use Rattle.node_arena.specs.Arenas.{node_at}
use Rattle.node_arena.specs.Trees.{Trees}
use Rattle.chunk_tree.specs.Descents.{Chunks, Comes}
use Rattle.chunk_tree.proofs.searching.find.Given as goal

abbrev pub invariant-along : goal.invariant-along
invariant-along l = record {
  there : IsSome (node_at l.arena l.here);
  few : l.above < MOST_SPINE;
  comes : (t : Trees) → Chunks l.kinds l.arena l.initial.here t → Comes l.kinds l.arena l.elem l.here l.above t;
}

abbrev pub decreases-along : goal.decreases-along
decreases-along l = MOST_SPINE - l.above
