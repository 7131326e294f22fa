use Rattle.insert_gen.proofs.tests.replaces_in.Given as goal

abbrev pub ghosts-replaces : goal.ghosts-replaces
ghosts-replaces a = record { name = a.blank.name; parts = a.blank.parts }
