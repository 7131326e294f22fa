use Rattle.index_check.proofs.dims.+add_dims.Given as goal

abbrev pub decreases-add_dims : goal.decreases-add_dims
decreases-add_dims l = l.count
