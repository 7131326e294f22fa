use Rattle.std.proofs.Common.{length}
use Rattle.index_check.proofs.valid_calls.+all_in_range.Given as goal

abbrev pub decreases-all_in_range : goal.decreases-all_in_range
decreases-all_in_range l = length l.dims.now
