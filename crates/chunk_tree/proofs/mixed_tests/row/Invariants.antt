use Rattle.std.proofs.Common.{◌≡◌, ◌≤◌, List}
use Rattle.node_arena.specs.declared.kinds.NodeKind.{NodeKind}
use Rattle.chunk_tree.specs.RowTrials.{AreForRows, IsRow}
use Rattle.chunk_tree.proofs.mixed_tests.row.Given as goal

abbrev pub invariant-back : goal.invariant-back
invariant-back g l = record {
  some : 1 ≤ l.from;
  few : l.from ≤ l.fn.count;
  row : (s : List NodeKind) → AreForRows s l.fn.chained → IsRow s 1 l.arena l.behind l.from l.fn.count;
  spare : l.from ≤ l.arena.nodes.spare;
  most : l.arena.nodes.most ≡ l.initial.arena.nodes.most;
}

abbrev pub decreases-back : goal.decreases-back
decreases-back g l = l.from
