use Rattle.structure_bench.proofs.main.Given as goal

abbrev pub ghosts-do_insertions : goal.ghosts-do_insertions
ghosts-do_insertions a = record { name = a.blank.name; parts = a.blank.parts }
