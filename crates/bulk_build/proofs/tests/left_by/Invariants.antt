use Rattle.bulk_build.proofs.tests.left_by.Given as goal

abbrev pub ghosts-left : goal.ghosts-left
ghosts-left a = record { name = a.blank.name; parts = a.blank.parts }
