use Rattle.merge_lattice.specs.Points.{parts}
use Rattle.loop_code.proofs.values.+value_from.Given as goal

abbrev pub decreases-value_from : goal.decreases-value_from
decreases-value_from l = parts l.expr.now
