use Rattle.std.proofs.Common.{length}
use Rattle.nested_modes.proofs.reading.+get.Given as goal

-- one mode fewer each time
abbrev pub decreases-get : goal.decreases-get
decreases-get l = length l.walks.now
