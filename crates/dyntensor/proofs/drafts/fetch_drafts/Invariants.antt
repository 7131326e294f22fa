use Rattle.std.proofs.Common.{◌≤◌, ◌+◌, length}
use Rattle.std.specs.Prelude.{All}
use Rattle.dt_model.specs.declared.limits.TheConstants.{FILE_LIMIT}
use Rattle.dyntensor.specs.Drafts.{AreTexts, IsShort}
use Rattle.dyntensor.specs.Readings.{IsQuiet}
use Rattle.dyntensor.proofs.drafts.fetch_drafts.Given as goal

abbrev pub invariant-loop-item : goal.invariant-loop-item
invariant-loop-item g l = record {
  quiet : IsQuiet (g.S.Shelf.state l.fn.shelf) (g.S.Shelf.state l.shelf);
  texts : AreTexts (g.S.Shelf.state l.fn.shelf).files l.items l.drafts.items l.rest;
  short : All IsShort l.drafts.items;
  held : l.held ≤ FILE_LIMIT + FILE_LIMIT;
}

abbrev pub decreases-loop-item : goal.decreases-loop-item
decreases-loop-item g l = length l.rest
