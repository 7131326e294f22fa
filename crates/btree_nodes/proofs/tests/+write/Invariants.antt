use Rattle.std.proofs.Common.{◌<◌}
use Rattle.btree_nodes.proofs.tests.+write.Given as goal

abbrev pub decreases-write : goal.decreases-write
decreases-write l = l.levels

abbrev pub invariant-loop-i : goal.invariant-loop-i
invariant-loop-i l = l.height < l.levels
