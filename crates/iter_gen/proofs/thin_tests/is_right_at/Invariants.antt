use Rattle.iter_gen.proofs.thin_tests.is_right_at.Given as goal

abbrev pub ghosts-is_right : goal.ghosts-is_right
ghosts-is_right a = record { name = a.blank.name; parts = a.blank.parts }
