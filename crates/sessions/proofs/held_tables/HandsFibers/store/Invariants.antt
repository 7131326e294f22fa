use Rattle.std.proofs.Common.{◌≢◌, take}
use Rattle.fiber_latch.specs.Views.{In}
use Rattle.fiber_store.specs.Stores.{StoreState}
use Rattle.sessions.specs.declared.hands.Hand.{Hand}
use Rattle.sessions.proofs.held_tables.HandsFibers.store.Given as goal

abbrev pub invariant-loop-hand : goal.invariant-loop-hand
invariant-loop-hand l = (h : Hand StoreState) → In h (take l.hand-index l.self.items) → h.latch ≢ l.latch
