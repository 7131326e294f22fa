use Rattle.merge_lattice.specs.Points.{parts}
use Rattle.merge_lattice.proofs.points.+point_in.Given as goal

abbrev pub decreases-point_in : goal.decreases-point_in
decreases-point_in l = parts l.expr.now
