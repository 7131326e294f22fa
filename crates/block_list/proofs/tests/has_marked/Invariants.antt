use Rattle.std.proofs.Common.{◌≤◌}
use Rattle.block_list.proofs.tests.has_marked.Given as goal

abbrev pub invariant-loop-at : goal.invariant-loop-at
invariant-loop-at l = l.next ≤ l.at
