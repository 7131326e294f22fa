use Rattle.std.proofs.Common.{ℕ, ◌≡◌, ◌+◌, ◌<◌, ◌≤◌, IsTrue, false, slice_index_or, vec_capacity}
use Rattle.std.specs.Mem.Slots.{slots_items, slots_filled, slots_len}
use Rattle.fiber_latch.specs.Leaving.{AreFromSlots}
use Rattle.fiber_latch.proofs.closing.take_stores.Given as goal

abbrev pub invariant-loop-latch : goal.invariant-loop-latch
invariant-loop-latch g l = record {
  items : slots_items l.slots.slots ≡ slots_items l.initial.slots.slots;
  sized : slots_len l.slots.slots ≡ l.end + 1;
  left : (k : ℕ) → k < l.latch → slice_index_or (slots_filled l.slots.slots) k false ≡ false;
  full : (k : ℕ) → l.latch ≤ k → k ≤ l.end → IsTrue (slice_index_or (slots_filled l.slots.slots) k false);
  room : l.end ≤ vec_capacity l.stores;
  taken : AreFromSlots l.latch (slots_items l.initial.slots.slots) l.stores.items;
}
