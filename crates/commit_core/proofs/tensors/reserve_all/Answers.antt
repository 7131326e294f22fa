use Rattle.std.proofs.Common.{◌∙◌, arith}
use Rattle.std.proofs.lemmas.Grind.{common_steps}
use Rattle.commit_core.proofs.CellListStateLemmas.{all_cells-kept, all_orders-kept}
use Rattle.commit_core.proofs.tensors.reserve_all.Goals as goal

pub returns-in_err-reserve-clause-cells : goal.returns-in_err-reserve-clause-cells
returns-in_err-reserve-clause-cells c = all_cells-kept c.loop-i.tensors c.loop-i.i c.index-tensors-i.result c.reserve.new.self c.in_err-reserve.ensures.cells
    ∙ c.loop-i.invariant.0

pub returns-in_err-reserve-clause-orders : goal.returns-in_err-reserve-clause-orders
returns-in_err-reserve-clause-orders c = all_orders-kept c.loop-i.tensors c.loop-i.i c.index-tensors-i.result c.reserve.new.self
    c.in_err-reserve.ensures.order ∙ c.loop-i.invariant.1

pub loop-i-preserved : goal.loop-i-preserved
loop-i-preserved c = (
  all_cells-kept c.loop-i.tensors c.loop-i.i c.index-tensors-i.result c.reserve.new.self c.in_ok-reserve.ensures.cells ∙ c.loop-i.invariant.0,
  all_orders-kept c.loop-i.tensors c.loop-i.i c.index-tensors-i.result c.reserve.new.self c.in_ok-reserve.ensures.order ∙ c.loop-i.invariant.1,
  λ k d l. grind (arith, common_steps, c.loop-i.invariant.2 k d, c.in_ok-reserve.ensures.room),
)
