use Rattle.std.proofs.Common.{ℕ, ◌≡◌, length}
use Rattle.dt_model.specs.declared.declared_tensors.Decls.{Decls}
use Rattle.dt_model.specs.Contents.{with_updates}
use Rattle.fiber_store.specs.Stores.{IsSound, store_content}
use Rattle.sessions.proofs.finishing.apply_due.Given as goal

abbrev pub invariant-loop-update : goal.invariant-loop-update
invariant-loop-update l = record {
  made : with_updates (store_content l.store) l.store.due ≡ with_updates (store_content l.initial.store) l.initial.store.due;
  sound : (d : Decls) (m : ℕ) → IsSound d m l.initial.store → IsSound d m l.store;
}

abbrev pub decreases-loop-update : goal.decreases-loop-update
decreases-loop-update l = length l.store.due
