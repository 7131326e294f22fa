use Rattle.merge_lattice.specs.Points.{parts}
use Rattle.loop_code.proofs.places.+after_accesses.Given as goal

abbrev pub decreases-after_accesses : goal.decreases-after_accesses
decreases-after_accesses l = parts l.expr.now
