use Rattle.std.proofs.Common.{◌≡◌, ◌≤◌, ◌<◌, ℕ, length, get_or, vec_len, vec_capacity}
use Rattle.fiber_latch.specs.Conditions.{config_of}
use Rattle.fiber_latch.specs.Openings.{with_held, kept_below, slots_below}
use Rattle.fiber_latch.specs.Seats.{IsStore}
use Rattle.fiber_latch.proofs.opening.give_fibers.Given as goal

abbrev pub invariant-loop-store : goal.invariant-loop-store
invariant-loop-store g l = record {
  table : l.token.table_id ≡ l.initial.token.table_id;
  me : l.token.me ≡ (with_held l.initial.token.me.0 (kept_below (vec_len l.stores)), slots_below (vec_len l.stores));
  few : vec_len l.stores ≤ l.end;
  room : l.end ≤ vec_capacity l.stores;
  good : (n : ℕ) (d : g.row.C.Denot) → n < length l.stores.items
      → IsStore g.C.Keep.content g.C.Keep.sound (config_of l.top.key) l.initial.token.me.0.seen n (get_or l.stores.items n d);
}

abbrev pub decreases-loop-store : goal.decreases-loop-store
decreases-loop-store g l = vec_len l.stores
