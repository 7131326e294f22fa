use Rattle.std.proofs.Common.{◌-◌}
use Rattle.chunk_tree.specs.Trials.{IsChunks, IsGrown}
use Rattle.chunk_tree.proofs.tests.grown.Given as goal

abbrev pub invariant-loop-i : goal.invariant-loop-i
invariant-loop-i g l = record {
  kind : IsChunks l.kinds;
  grown : IsGrown l.kinds l.arena l.top l.free.items (2000 - l.i);
}
