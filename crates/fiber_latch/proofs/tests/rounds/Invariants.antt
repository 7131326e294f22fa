use Rattle.std.proofs.Common.{ℕ, ◌≡◌, ◌+◌}
use Rattle.fiber_latch.specs.Trial.{IsResting}
use Rattle.fiber_latch.proofs.tests.rounds.Given as goal

abbrev pub invariant-loop-number : goal.invariant-loop-number
invariant-loop-number g l = record {
  sits : (n : ℕ) × ((l.number ≡ n + 1) × IsResting l.latches n l.seat);
  first : l.seat.first ≡ l.initial.seat.first;
  last : l.seat.last ≡ l.initial.seat.last;
}
