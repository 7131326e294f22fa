use Rattle.block_list.proofs.tests.woven_outcome.Given as goal

abbrev pub ghosts-run_all : goal.ghosts-run_all
ghosts-run_all a = record { name = a.blank.name; parts = a.blank.parts }
