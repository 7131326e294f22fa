use Rattle.std.proofs.Common.{ℕ, List, ◌≡◌, ◌++◌}
use Rattle.fiber_latch.specs.Seats.{IsHeldBy}
use Rattle.fiber_latch.specs.Views.{In}
use Rattle.fiber_latch.proofs.latches.Latches.take.Given as goal

abbrev pub invariant-loop : goal.invariant-loop
invariant-loop g l = (conflicts : List (ℕ × ℕ)) × (l.seat ≡ record l.initial.seat { conflicts = l.initial.seat.conflicts ++ conflicts })
    × ((p : ℕ × ℕ) → In p conflicts → (p.0 ≡ l.latch) × IsHeldBy p.1 l.initial.seat)
