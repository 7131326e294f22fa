use Rattle.std.proofs.Common.{length}
use Rattle.nested_modes.proofs.putting.+put.Given as goal

abbrev pub decreases-put : goal.decreases-put
decreases-put g l = length l.codes.now
