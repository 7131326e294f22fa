use Rattle.std.proofs.Common.{All}
use Rattle.fiber_latch.specs.Trial.{IsFree}
use Rattle.fiber_latch.proofs.tests.hold_in_turn.Given as goal

abbrev pub invariant-loop-turn : goal.invariant-loop-turn
invariant-loop-turn g l = record { waiting : All (IsFree l.latches) l.waiting.items; done : All (IsFree l.latches) l.done.items }
