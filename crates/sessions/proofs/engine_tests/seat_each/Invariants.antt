use Rattle.std.proofs.Common.{All}
use Rattle.sessions.specs.TrialSeats.{IsFree}
use Rattle.sessions.proofs.engine_tests.seat_each.Given as goal

abbrev pub invariant-loop-at : goal.invariant-loop-at
invariant-loop-at g l = record { seats : All (IsFree l.engine) l.seats.items; rest : IsFree l.engine l.rest }
