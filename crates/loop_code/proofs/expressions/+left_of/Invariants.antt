use Rattle.merge_lattice.specs.Points.{parts}
use Rattle.loop_code.proofs.expressions.+left_of.Given as goal

abbrev pub decreases-left_of : goal.decreases-left_of
decreases-left_of l = parts l.expr.now
