use Rattle.std.proofs.Common.{length}
use Rattle.index_check.proofs.appearance.+numbered_in.Given as goal

abbrev pub decreases-numbered_in : goal.decreases-numbered_in
decreases-numbered_in l = length l.vars.now
