use Rattle.std.proofs.Common.{length}
use Rattle.dyntensor.proofs.checks.+write_rows.Given as goal

abbrev pub decreases-write_rows : goal.decreases-write_rows
decreases-write_rows l = length l.schemas.now
