use Rattle.merge_lattice.specs.Points.{parts}
use Rattle.loop_code.proofs.places.+add_places.Given as goal

abbrev pub decreases-add_places : goal.decreases-add_places
decreases-add_places l = parts l.expr.now
