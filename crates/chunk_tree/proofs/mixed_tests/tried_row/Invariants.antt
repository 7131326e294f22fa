use Rattle.chunk_tree.proofs.mixed_tests.tried_row.Given as goal

abbrev pub ghosts-tried : goal.ghosts-tried
ghosts-tried a = record { name = a.blank.name; parts = a.blank.parts }
