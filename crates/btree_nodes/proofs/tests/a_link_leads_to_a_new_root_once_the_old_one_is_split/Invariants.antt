use Rattle.btree_nodes.proofs.tests.a_link_leads_to_a_new_root_once_the_old_one_is_split.Given as goal

abbrev pub ghosts-hung : goal.ghosts-hung
ghosts-hung g a = record { name = a.blank.name; parts = a.blank.parts }
