use Rattle.chunk_tree.proofs.mixed_tests.+write.Given as goal

abbrev pub decreases-write : goal.decreases-write
decreases-write l = l.levels
