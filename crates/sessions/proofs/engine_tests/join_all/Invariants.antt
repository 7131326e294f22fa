use Rattle.std.proofs.Common.{All, vec_len}
use Rattle.sessions.specs.TrialSeats.{IsFree}
use Rattle.sessions.proofs.engine_tests.join_all.Given as goal

abbrev pub invariant-loop-seat : goal.invariant-loop-seat
invariant-loop-seat g l = record { seats : All (IsFree l.engine) l.seats.items; upper : IsFree l.engine l.upper }

abbrev pub decreases-loop-seat : goal.decreases-loop-seat
decreases-loop-seat g l = vec_len l.seats
