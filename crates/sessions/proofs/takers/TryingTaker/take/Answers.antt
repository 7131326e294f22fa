use Rattle.fiber_latch.specs.Rule.{GoodAt}
use Rattle.fiber_store.specs.Stores.{IsSound, store_content}
use Rattle.sessions.proofs.NotingLemmas.{Notes-tried}
use Rattle.sessions.proofs.takers.TryingTaker.take.Goals as goal

pub returns-clause-notes : goal.returns-clause-notes
returns-clause-notes c =
    Notes-tried (GoodAt store_content IsSound) c.args.latch c.args.session c.try_take.result c.args.seat.now c.try_take.new.seat c.try_take.ensures.busy
    c.try_take.ensures.ok
