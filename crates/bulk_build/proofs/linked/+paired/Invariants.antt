use Rattle.std.proofs.Common.{length}
use Rattle.bulk_build.proofs.linked.+paired.Given as goal

abbrev pub decreases-paired : goal.decreases-paired
decreases-paired g l = length l.elems.now
