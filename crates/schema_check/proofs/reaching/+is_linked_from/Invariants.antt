use Rattle.std.proofs.Common.{length}
use Rattle.schema_check.proofs.reaching.+is_linked_from.Given as goal

abbrev pub decreases-is_linked_from : goal.decreases-is_linked_from
decreases-is_linked_from l = length l.kinds.now
