use Rattle.std.proofs.Common.{length}
use Rattle.schema_check.proofs.reaching.+first_unmarked.Given as goal

abbrev pub decreases-first_unmarked : goal.decreases-first_unmarked
decreases-first_unmarked l = length l.kinds.now
