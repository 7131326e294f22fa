use Rattle.bulk_build.proofs.tests.digits_of.Given as goal

abbrev pub decreases-loop-n : goal.decreases-loop-n
decreases-loop-n l = l.n
