use Rattle.commit_core.proofs.CellsLemmas.{Puts-set, Puts-insert, IsAscending-insert, none_else_at, none_of_gap}
use Rattle.commit_core.proofs.cells.CellList.put.Goals as goal

-- a cell that is put into its gap keeps the order
pub invariant_of-self-in-Err : goal.invariant_of-self-in-Err
invariant_of-self-in-Err c = rw c.insert.ensures.pairs
    (IsAscending-insert c.self.inside.cells.pairs c.args.at.now c.in-Err.place c.args.value c.in-Err.ensures.absent c.self.invariant)

pub returns-in-Ok-clause-value : goal.returns-in-Ok-clause-value
returns-in-Ok-clause-value c =
    let cells = c.self.inside.cells.pairs in
    let at = c.in-Ok.ensures.found in
    rw (← c.self.view_is, c.set.ensures.pairs) (Puts-set cells c.args.at.now c.in-Ok.place c.args.value c.ranges.value.fits at
    (none_else_at cells c.args.at.now c.in-Ok.place c.self.invariant at))

pub returns-in-Err-clause-value : goal.returns-in-Err-clause-value
returns-in-Err-clause-value c =
    let cells = c.self.inside.cells.pairs in
    rw (← c.self.view_is, c.insert.ensures.pairs) (Puts-insert cells c.args.at.now c.in-Err.place c.args.value c.ranges.value.fits
    (none_of_gap cells c.args.at.now c.in-Err.place c.in-Err.ensures.absent))
