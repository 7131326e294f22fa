use Rattle.structure_bench.proofs.insertion_tests.inserted.Given as goal

abbrev pub ghosts-do_insertions : goal.ghosts-do_insertions
ghosts-do_insertions a = record { name = a.blank.name; parts = a.blank.parts }
