use Rattle.index_check.proofs.Nodes.{nodes}
use Rattle.index_check.proofs.accesses.+add_accesses.Given as goal

abbrev pub decreases-add_accesses : goal.decreases-add_accesses
decreases-add_accesses l = nodes l.expr.now
