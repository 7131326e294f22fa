use Rattle.index_check.proofs.Nodes.{nodes}
use Rattle.index_check.proofs.terms.+count_terms.Given as goal

abbrev pub decreases-count_terms : goal.decreases-count_terms
decreases-count_terms l = nodes l.expr.now
