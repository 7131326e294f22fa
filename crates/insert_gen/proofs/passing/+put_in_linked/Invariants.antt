use Rattle.insert_gen.proofs.passing.+put_in_linked.Given as goal

abbrev pub decreases-put_in_linked : goal.decreases-put_in_linked
decreases-put_in_linked g l = l.room
