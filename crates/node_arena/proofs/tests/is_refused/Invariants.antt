use Rattle.node_arena.proofs.tests.is_refused.Given as goal

abbrev pub ghosts-refused : goal.ghosts-refused
ghosts-refused a = record { name = a.blank.name; parts = a.blank.parts }
