use Rattle.structure_bench.proofs.work.Given as goal

abbrev pub ghosts-do_work : goal.ghosts-do_work
ghosts-do_work a = record { name = a.blank.name; parts = a.blank.parts }
