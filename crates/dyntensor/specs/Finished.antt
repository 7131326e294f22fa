-- What is known once the scripts of a world have been run. No public clause cites this module.
use Rattle.std.specs.Prelude.{Bool, true, false}
use Rattle.dt_model.specs.declared.replies.World.{World}
use Rattle.dt_model.specs.Runs.{IsOrder, AllGets}
use Rattle.fiber_latch.specs.declared.closing.Closed.{Closed}
use Rattle.fiber_store.specs.Stores.{StoreState}
use Rattle.sample_world.specs.Complete.{AllCalls}
use Rattle.sessions.specs.Closing.{AreStoresAfter}
use Rattle.sessions.specs.declared.outcomes.Outcome.{Outcome}
use Rattle.sessions.specs.declared.outcomes.Outcome.TheVariants.{Refused, Reply, NoMemory}

-- the journal is an order of the world and has each accepted get, and the stores have what it leaves
pub record IsFinished (w : World) (closed : Closed StoreState) : Type 0 where
  pub order : IsOrder w closed.journal.entries
  pub gets : AllGets w closed.journal.entries
  pub stores : AreStoresAfter w closed.journal.entries closed.stores.items

-- the journal is an order of the world and has every accepted call, and the stores have what it leaves
pub record IsComplete (w : World) (closed : Closed StoreState) : Type 0 where
  pub finished : IsFinished w closed
  pub calls : AllCalls w closed.journal.entries

-- whether a line is refused, or its call was made
abbrev pub is_settled : Outcome → Bool
is_settled (Refused r) = true
is_settled (Reply reply) = true
is_settled NoMemory = false
