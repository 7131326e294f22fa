use Rattle.node_arena.proofs.tests.is_read_as_made.Given as goal

abbrev pub ghosts-made : goal.ghosts-made
ghosts-made a = record { name = a.blank.name; parts = a.blank.parts }
