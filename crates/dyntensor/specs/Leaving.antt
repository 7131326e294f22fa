-- What a run leaves of its table: the journal, and the store of each latch.
use Rattle.std.specs.Prelude.{ℕ, ◌≡◌, List, length, slice_get, Some}
use Rattle.dt_model.specs.declared.calls.Entry.{Entry}
use Rattle.dt_model.specs.declared.replies.World.{World}
use Rattle.dt_model.specs.Runs.{contents_after, restricted_to}
use Rattle.dt_model.specs.Tensors.{latch_count}
use Rattle.fiber_latch.specs.declared.closing.Closed.{Closed}
use Rattle.fiber_store.specs.Stores.{StoreState, IsSound, store_content}

-- the journal has these entries, and there is one store for each latch: it is sound for the latch, and has exactly what the
-- entries leave in the cells of that latch
pub record IsLeftBy (w : World) (entries : List Entry) (closed : Closed StoreState) : Type 0 where
  pub journal : closed.journal.entries ≡ entries
  pub count : length closed.stores.items ≡ latch_count w.decls
  pub sound : (l : ℕ) (s : StoreState) → slice_get closed.stores.items l ≡ Some s → IsSound w.decls l s
  pub content : (l : ℕ) (s : StoreState) → slice_get closed.stores.items l ≡ Some s
      → store_content s ≡ restricted_to w.decls (contents_after w entries) l
