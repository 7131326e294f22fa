use Rattle.std.proofs.Common.{length}
use Rattle.index_check.proofs.dims.+dim_of.Given as goal

abbrev pub decreases-dim_of : goal.decreases-dim_of
decreases-dim_of l = length l.list.now
