use Rattle.std.proofs.Common.{All}
use Rattle.sessions.specs.TrialSeats.{IsFree}
use Rattle.sessions.proofs.engine_tests.round.Given as goal

abbrev pub invariant-loop-seat : goal.invariant-loop-seat
invariant-loop-seat g l = All (IsFree l.engine) l.seats
