use Rattle.std.proofs.Common.{All}
use Rattle.fiber_latch.specs.Trial.{IsFree}
use Rattle.fiber_latch.proofs.tests.hold_each.Given as goal

abbrev pub invariant-loop-latch : goal.invariant-loop-latch
invariant-loop-latch g l = All (IsFree l.latches) l.seats.items
