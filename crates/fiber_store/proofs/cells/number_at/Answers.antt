use Rattle.std.proofs.Common.{◌<◌, ◌^◌, [], ◌∙◌, subst}
use Rattle.commit_core.proofs.CellsLemmas.{total_at-present, total_at-absent, none_else_at, none_of_gap}
use Rattle.fiber_store.proofs.cells.number_at.Goals as goal

-- the cell that was found has the number
pub returns-in-Ok : goal.returns-in-Ok
returns-in-Ok c =
    let cells = c.args.cells.now.pairs in
    let at = c.in-Ok.ensures.found in
    let is = c.number_of.ensures.value ([], 0) in
    record {
      value = is ∙ total_at-present cells c.args.at.now c.in-Ok.index ([], 0) (subst (λ n. n < 2 ^ 64) is c.number_of.type_inv) at
          (none_else_at cells c.args.at.now c.in-Ok.index c.requires.ascending at);
    }

-- where there is a gap, the number is 0
pub returns-in-Err : goal.returns-in-Err
returns-in-Err c = record {
  value = total_at-absent c.args.cells.now.pairs c.args.at.now (none_of_gap c.args.cells.now.pairs c.args.at.now c.in-Err.field-0 c.in-Err.ensures.absent);
}
