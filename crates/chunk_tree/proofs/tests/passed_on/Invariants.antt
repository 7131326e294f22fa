use Rattle.chunk_tree.proofs.tests.passed_on.Given as goal

abbrev pub ghosts-passed : goal.ghosts-passed
ghosts-passed a = record { name = a.blank.name; parts = a.blank.parts }
