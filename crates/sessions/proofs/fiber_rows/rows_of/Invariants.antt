use Rattle.std.proofs.Common.{◌≤◌}
use Rattle.dt_model.specs.Contents.{Contents}
use Rattle.sessions.specs.HeldTables.{AreFibersFor}
use Rattle.sessions.proofs.FiberTables.{IsTableBelow}
use Rattle.sessions.proofs.fiber_rows.rows_of.Given as goal

abbrev pub invariant-loop-latch : goal.invariant-loop-latch
invariant-loop-latch g l = (l.first ≤ l.latch) × (l.latch ≤ l.end)
    × ((m : Contents) → AreFibersFor (g.F.Fibers.has l.fibers) l.decls m l.tensor → IsTableBelow l.decls m l.tensor l.latch l.rows)
