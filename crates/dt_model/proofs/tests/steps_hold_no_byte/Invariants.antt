use Rattle.dt_model.proofs.tests.steps_hold_no_byte.Given as goal

abbrev pub ghosts-bytes_after_three_ticks : goal.ghosts-bytes_after_three_ticks
ghosts-bytes_after_three_ticks g a = record { name = a.blank.name; parts = a.blank.parts }
