use Rattle.std.proofs.Common.{◌≡◌, ◌+◌, All}
use Rattle.fiber_latch.specs.Trial.{IsFree}
use Rattle.fiber_latch.proofs.tests.seat_each.Given as goal

abbrev pub invariant-loop-at : goal.invariant-loop-at
invariant-loop-at l = record {
  seats : All (IsFree l.latches) l.seats.items;
  rest : IsFree l.latches l.rest;
  first : l.rest.first + 1
      ≡ l.at;
  last : l.rest.last ≡ 16;
}
