use Rattle.std.proofs.Common.{length}
use Rattle.iter_gen.proofs.thin.+chain.Given as goal

abbrev pub decreases-chain : goal.decreases-chain
decreases-chain g l = length l.elems.now
