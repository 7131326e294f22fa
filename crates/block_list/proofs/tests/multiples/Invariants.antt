use Rattle.std.proofs.Common.{◌≤◌, length}
use Rattle.block_list.proofs.tests.multiples.Given as goal

abbrev pub invariant-loop-i : goal.invariant-loop-i
invariant-loop-i l = length l.order.items ≤ l.i
