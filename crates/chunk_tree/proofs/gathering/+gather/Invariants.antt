use Rattle.chunk_tree.proofs.gathering.+gather.Given as goal

abbrev pub decreases-gather : goal.decreases-gather
decreases-gather l = l.levels
