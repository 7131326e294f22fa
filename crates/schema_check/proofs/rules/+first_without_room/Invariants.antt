use Rattle.std.proofs.Common.{length}
use Rattle.schema_check.proofs.rules.+first_without_room.Given as goal

abbrev pub decreases-first_without_room : goal.decreases-first_without_room
decreases-first_without_room l = length l.kinds.now
