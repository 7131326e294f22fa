use Rattle.std.proofs.Common.{length}
use Rattle.dyntensor.proofs.workloads.+take_schemas.Given as goal

abbrev pub decreases-take_schemas : goal.decreases-take_schemas
decreases-take_schemas l = length l.schemas.now
