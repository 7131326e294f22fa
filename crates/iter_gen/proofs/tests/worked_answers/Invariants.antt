use Rattle.iter_gen.proofs.tests.worked_answers.Given as goal

abbrev pub ghosts-worked : goal.ghosts-worked
ghosts-worked a = record { name = a.blank.name; parts = a.blank.parts }
