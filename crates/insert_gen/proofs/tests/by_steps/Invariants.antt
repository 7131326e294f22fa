use Rattle.std.proofs.Common.{◌≡◌, length}
use Rattle.insert_gen.proofs.tests.by_steps.Given as goal

abbrev pub invariant-loop-i : goal.invariant-loop-i
invariant-loop-i l = length l.order.items ≡ l.i
