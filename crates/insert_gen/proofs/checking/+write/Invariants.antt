use Rattle.insert_gen.proofs.checking.+write.Given as goal

abbrev pub decreases-write : goal.decreases-write
decreases-write l = l.levels
