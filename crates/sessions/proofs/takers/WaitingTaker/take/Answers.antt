use Rattle.fiber_latch.specs.Rule.{GoodAt}
use Rattle.fiber_store.specs.Stores.{IsSound, store_content}
use Rattle.sessions.proofs.NotingLemmas.{Notes-waited}
use Rattle.sessions.proofs.takers.WaitingTaker.take.Goals as goal

pub returns-clause-notes : goal.returns-clause-notes
returns-clause-notes g c =
    Notes-waited (GoodAt store_content IsSound) c.args.latch c.args.session c.args.seat.now c.take.result c.take.new.seat c.take.ensures.value
