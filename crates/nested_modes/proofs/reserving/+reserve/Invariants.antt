use Rattle.std.proofs.Common.{length}
use Rattle.nested_modes.proofs.reserving.+reserve.Given as goal

abbrev pub decreases-reserve : goal.decreases-reserve
decreases-reserve l = length l.codes.now
