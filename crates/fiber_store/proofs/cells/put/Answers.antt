use Rattle.std.proofs.Common.{inl, inr}
use Rattle.fiber_store.proofs.cells.put.Goals as goal

pub returns-in-Ok-clause-cells : goal.returns-in-Ok-clause-cells
returns-in-Ok-clause-cells c = inl (c.in-Ok.index, c.in-Ok.ensures.found, c.set.ensures.pairs)

pub returns-in-Err-clause-cells : goal.returns-in-Err-clause-cells
returns-in-Err-clause-cells c = inr (c.in-Err.index, c.in-Err.ensures.absent, c.insert.ensures.pairs)
