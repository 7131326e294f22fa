use Rattle.std.proofs.Common.{length}
use Rattle.bulk_build.proofs.linked.+subtree.Given as goal

abbrev pub decreases-subtree : goal.decreases-subtree
decreases-subtree g l = length l.elems.now
