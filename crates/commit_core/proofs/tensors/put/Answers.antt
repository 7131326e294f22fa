use Rattle.commit_core.proofs.CellListStateLemmas.{contents-put, all_orders-kept}
use Rattle.commit_core.proofs.tensors.put.Goals as goal

pub returns-clause-contents : goal.returns-clause-contents
returns-clause-contents c = contents-put c.args.tensors.now c.args.tensor c.args.at.now c.args.value c.index-tensors-tensor.result c.put.new.self
    c.requires.within c.put.ensures.value

pub returns-clause-orders : goal.returns-clause-orders
returns-clause-orders c = all_orders-kept c.args.tensors.now c.args.tensor c.index-tensors-tensor.result c.put.new.self c.put.ensures.order
