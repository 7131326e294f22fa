use Rattle.std.proofs.Common.{◌-◌}
use Rattle.btree_nodes.specs.Trials.{IsGrown}
use Rattle.btree_nodes.proofs.tests.grown.Given as goal

abbrev pub invariant-loop-i : goal.invariant-loop-i
invariant-loop-i g l = IsGrown l.kinds l.arena l.top l.free.items (2000 - l.i)
