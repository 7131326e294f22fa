use Rattle.iter_gen.proofs.thin.+woven.Given as goal

abbrev pub decreases-woven : goal.decreases-woven
decreases-woven g l = l.levels
