use Rattle.std.proofs.Common.{length}
use Rattle.dyntensor.proofs.drafts.+add_drafts.Given as goal

abbrev pub decreases-add_drafts : goal.decreases-add_drafts
decreases-add_drafts l = length l.drafts.items
