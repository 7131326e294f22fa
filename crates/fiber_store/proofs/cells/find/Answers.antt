use Rattle.commit_core.proofs.CellsLemmas.{searched}
use Rattle.fiber_store.proofs.cells.find.Goals as goal

-- a binary search ends at the cell, or at the gap for it
pub returns : goal.returns
returns c =
    let found = searched c.args.cells.now.pairs c.args.at.now c.requires.ascending c.search.result c.search.ensures.bound c.search.ensures.position in
    record { found = found.0; absent = found.1 }
