use Rattle.std.proofs.Common.{◌≡◌, ◌≤◌, ◌++◌, drop}
use Rattle.std.specs.Prelude.{All}
use Rattle.fiber_store.specs.Stores.{IsInFiber}
use Rattle.sessions.proofs.loading.take_run.Given as goal

abbrev pub invariant-loop-place : goal.invariant-loop-place
invariant-loop-place l = (l.from ≤ l.place) × (drop l.from l.rows ≡ l.run ++ drop l.place l.rows) × All (λ p. IsInFiber l.decls l.tensor l.latch p.0) l.run
