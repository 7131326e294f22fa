use Rattle.std.proofs.Common.{ℕ, ◌≡◌, List, vec_len}
use Rattle.dt_model.specs.declared.calls.Call.TheVariants.{Batch}
use Rattle.dt_model.specs.declared.calls.Entry.{Entry}
use Rattle.dt_model.specs.declared.calls.Update.{Update}
use Rattle.dt_model.specs.Contents.{with_updates}
use Rattle.dt_model.specs.Runs.{contents_after}
use Rattle.fiber_store.specs.Stores.{IsSound, store_content}
use Rattle.sessions.specs.Holding.{due_of, listed, AreGood, AreDue}
use Rattle.sessions.proofs.finishing.apply_all.Given as goal

abbrev pub invariant-loop-hand : goal.invariant-loop-hand
invariant-loop-hand l = (s : ℕ) × (updates : List Update) × (before : List Entry) × (l.seat ≡ record l.initial.seat { held = listed s l.hands.items })
    × (contents_after l.initial.seat.config.world l.initial.seat.seen ≡ with_updates (contents_after l.initial.seat.config.world before) updates)
    × AreGood store_content IsSound l.initial.seat.config before l.hands.items
    × AreDue due_of l.initial.seat.config.world.decls (Batch updates) l.hands.items

abbrev pub decreases-loop-hand : goal.decreases-loop-hand
decreases-loop-hand l = vec_len l.hands
