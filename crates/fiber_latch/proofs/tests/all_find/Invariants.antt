use Rattle.std.proofs.Common.{All, vec_len}
use Rattle.fiber_latch.specs.Trial.{IsFree}
use Rattle.fiber_latch.proofs.tests.all_find.Given as goal

abbrev pub invariant-loop-seat : goal.invariant-loop-seat
invariant-loop-seat g l = record { seats : All (IsFree l.latches) l.seats.items; tried : All (IsFree l.latches) l.tried.items }

abbrev pub decreases-loop-seat : goal.decreases-loop-seat
decreases-loop-seat g l = vec_len l.seats
