-- What the stores of a closed run hold.
use Rattle.std.specs.Prelude.{ℕ, List}
use Rattle.dt_model.specs.declared.calls.Entry.{Entry}
use Rattle.dt_model.specs.declared.replies.World.{World}
use Rattle.fiber_latch.specs.Seats.{AreStores, config_for}
use Rattle.fiber_store.specs.Stores.{StoreState, IsSound, store_content}

-- one store for each latch of the world's tensors, in their order, with the shape of the latch and the cells that the entries
-- leave there, in some run of the world
abbrev pub AreStoresAfter : World → List Entry → List StoreState → Type 0
AreStoresAfter w seen stores = (sessions : ℕ) × (calls : ℕ) × AreStores store_content IsSound (config_for w sessions calls) seen stores
