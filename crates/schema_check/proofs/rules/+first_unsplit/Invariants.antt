use Rattle.std.proofs.Common.{length}
use Rattle.schema_check.proofs.rules.+first_unsplit.Given as goal

abbrev pub decreases-first_unsplit : goal.decreases-first_unsplit
decreases-first_unsplit l = length l.kinds.now
