use Rattle.std.proofs.Common.{◌≡◌, drop}
use Rattle.dt_model.specs.Contents.{with_updates}
use Rattle.fiber_store.specs.Stores.{IsSound, own, store_content}
use Rattle.fiber_store.specs.TwoTensors.{two_tensors}
use Rattle.fiber_store.proofs.tests.make.Given as goal

abbrev pub invariant-loop-update : goal.invariant-loop-update
invariant-loop-update l = IsSound two_tensors l.latch l.store × (l.store.due ≡ own two_tensors l.latch (drop l.update-index l.updates))
    × (with_updates (store_content l.store) l.store.due ≡ with_updates (store_content l.fn.store) (own two_tensors l.latch l.updates))
