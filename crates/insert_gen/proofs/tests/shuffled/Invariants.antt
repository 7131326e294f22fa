use Rattle.std.proofs.Common.{◌≤◌, length}
use Rattle.insert_gen.specs.declared.tests.TheConstants.{MOST}
use Rattle.insert_gen.proofs.tests.shuffled.Given as goal

abbrev pub invariant-loop-i : goal.invariant-loop-i
invariant-loop-i l = length l.order.items ≤ MOST
