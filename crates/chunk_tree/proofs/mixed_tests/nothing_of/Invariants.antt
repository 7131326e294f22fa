use Rattle.chunk_tree.proofs.mixed_tests.nothing_of.Given as goal

abbrev pub ghosts-nothing : goal.ghosts-nothing
ghosts-nothing a = record { name = a.blank.name; parts = a.blank.parts }
