use Rattle.btree_nodes.proofs.tests.tree.Given as goal

abbrev pub ghosts-grown : goal.ghosts-grown
ghosts-grown a = record { name = a.blank.name; parts = a.blank.parts }
