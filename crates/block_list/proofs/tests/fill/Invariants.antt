use Rattle.std.proofs.Common.{◌≤◌, ◌+◌, length}
use Rattle.node_arena.specs.Rules.{Serves}
use Rattle.node_arena.specs.Trees.{Trees}
use Rattle.block_list.specs.Filling.{Holds}
use Rattle.block_list.proofs.tests.fill.Given as goal

abbrev pub invariant-loop-count : goal.invariant-loop-count
invariant-loop-count g l = record {
  holds : (t : Trees) × Holds l.kinds l.arena l.node l.count l.marks t;
  serves : Serves l.kinds l.arena;
  spare : length l.order ≤ l.arena.nodes.spare + l.count;
}
