use Rattle.std.proofs.Common.{length}
use Rattle.schema_check.proofs.naming.+first_unlinked.Given as goal

abbrev pub decreases-first_unlinked : goal.decreases-first_unlinked
decreases-first_unlinked l = length l.kinds.now
