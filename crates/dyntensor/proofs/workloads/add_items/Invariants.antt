use Rattle.std.proofs.Common.{length}
use Rattle.dyntensor.specs.Adding.{IsAdded}
use Rattle.dyntensor.specs.Readings.{IsQuiet}
use Rattle.dyntensor.specs.Workload.{nothing}
use Rattle.dyntensor.proofs.workloads.add_items.Given as goal

abbrev pub invariant-loop-item : goal.invariant-loop-item
invariant-loop-item g l = record {
  quiet : IsQuiet (g.S.Shelf.state l.fn.shelf) (g.S.Shelf.state l.shelf);
  added : IsAdded (g.S.Shelf.state l.fn.shelf).files l.manifest nothing l.items l.gathering l.rest;
}

abbrev pub decreases-loop-item : goal.decreases-loop-item
decreases-loop-item g l = length l.rest
