use Rattle.std.proofs.Common.{sym}
use Rattle.fiber_store.proofs.FibersLemmas.{in_range-other_length}
use Rattle.fiber_store.proofs.fibers.is_in_range.Goals as goal

pub returns-then-dims-at : goal.returns-then-dims-at
returns-then-dims-at c = record { value = sym (in_range-other_length c.args.dims.now c.args.at.now c.if-dims-at.true) }
