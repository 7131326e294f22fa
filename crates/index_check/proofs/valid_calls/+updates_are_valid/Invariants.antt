use Rattle.std.proofs.Common.{length}
use Rattle.index_check.proofs.valid_calls.+updates_are_valid.Given as goal

abbrev pub decreases-updates_are_valid : goal.decreases-updates_are_valid
decreases-updates_are_valid l = length l.updates.now
