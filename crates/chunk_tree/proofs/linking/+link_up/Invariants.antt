use Rattle.std.proofs.Common.{length}
use Rattle.chunk_tree.proofs.linking.+link_up.Given as goal

abbrev pub decreases-link_up : goal.decreases-link_up
decreases-link_up g l = length l.ids.now
