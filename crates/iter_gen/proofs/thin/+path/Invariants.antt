use Rattle.std.proofs.Common.{length}
use Rattle.iter_gen.proofs.thin.+path.Given as goal

abbrev pub decreases-path : goal.decreases-path
decreases-path g l = length l.elems.now
