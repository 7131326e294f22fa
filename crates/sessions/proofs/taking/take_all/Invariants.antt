use Rattle.std.proofs.Common.{ℕ, ◌≡◌, ◌≤◌, ◌-◌, [], length, drop}
use Rattle.dt_model.specs.Latches.{needs}
use Rattle.fiber_store.specs.Stores.{IsSound, store_content}
use Rattle.sessions.specs.Holding.{due_of}
use Rattle.sessions.specs.Needing.{covers}
use Rattle.sessions.specs.Noting.{Notes}
use Rattle.sessions.proofs.HoldingLemmas.{HasTakenBelow}
use Rattle.sessions.proofs.taking.take_all.Given as goal

abbrev pub invariant-loop-latch : goal.invariant-loop-latch
invariant-loop-latch g l = record {
  taken : HasTakenBelow store_content IsSound due_of l.session l.call l.initial.seat l.from l.seat l.hands.items;
  notes : Notes g.T.Taker.waits (needs l.decls l.call) [] l.initial.seat l.seat;
  place : l.place ≤ length l.ranges;
  left : (k : ℕ) → l.from ≤ k → covers (drop l.place l.ranges) k ≡ needs l.decls l.call k;
}

abbrev pub decreases-loop-latch : goal.decreases-loop-latch
decreases-loop-latch g l = l.latches.config.end - l.from
