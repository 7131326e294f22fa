use Rattle.std.proofs.Common.{length}
use Rattle.schema_check.proofs.rules.+first_out_of_bounds.Given as goal

abbrev pub decreases-first_out_of_bounds : goal.decreases-first_out_of_bounds
decreases-first_out_of_bounds l = length l.kinds.now
