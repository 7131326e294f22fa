use Rattle.fiber_store.specs.TwoTensors.{two_tensors}
use Rattle.fiber_store.proofs.tests.a_later_batch_drops_what_was_due.Goals as goal

-- a store that was prepared is still sound
pub make-requires-clause-sound : goal.make-requires-clause-sound
make-requires-clause-sound g c = c.prepare.ensures.sound two_tensors 1 c.in_ok-store.ensures.sound
