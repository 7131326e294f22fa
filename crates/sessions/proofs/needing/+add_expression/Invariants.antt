use Rattle.slow_eval.proofs.Nodes.{nodes}
use Rattle.sessions.proofs.needing.+add_expression.Given as goal

abbrev pub decreases-add_expression : goal.decreases-add_expression
decreases-add_expression l = nodes l.expression.now
