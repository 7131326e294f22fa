use Rattle.std.proofs.Common.{◌∙◌, sym}
use Rattle.fiber_latch.specs.declared.tests.Small.{Small}
use Rattle.fiber_latch.proofs.TrialGoodLemmas.{new_stores}
use Rattle.fiber_latch.proofs.tests.table.Goals as goal

pub open-requires-clause-stores : goal.open-requires-clause-stores
open-requires-clause-stores c =
    new_stores (λ (s : Small). s.latch) (λ (s : Small). s.cells.items) c.in_ok-world.world c.args.dimension c.args.latches c.args.sessions c.args.calls
    c.in_ok-world.ensures.trial c.in_ok-stores.stores.items (sym c.in_ok-stores.stores.ok.0 ∙ c.in_ok-stores.ensures.count) c.in_ok-stores.ensures.empty
