use Rattle.std.proofs.Common.{ℕ, List, Bool, false, ◌≡◌, ◌+◌, ◌<◌, ◌≤◌, IsTrue, Some, arith, sym, ap, ◌∙◌, subst, get_or}
use mathlib.Core.Option.{some}
use lib.ListN.{get_elem?}
use Rattle.std.specs.Mem.Slots.{slots_items, slots_filled, slots_len}
use Rattle.fiber_latch.specs.declared.rule.Kept.TheVariants.{Fiber}
use Rattle.fiber_latch.specs.Leaving.{HasValue, AreFromSlots}
use Rattle.fiber_latch.proofs.LeavingLemmas.{the_same, taken_more, left_more, full_less}
use Rattle.fiber_latch.proofs.closing.take_stores.Goals as goal

pub store_in-store-requires : goal.store_in-store-requires
store_in-store-requires g c =
    let inv = c.loop-latch.invariant in
    let h = c.requires.values.fibers c.loop-latch.latch (omega arith) in
    record {
      held = (
        h.1.0,
        h.0,
        the_same (slots_items c.args.slots.now.slots) (slots_items c.loop-latch.slots.slots) c.loop-latch.latch (Some h.1.0)
            c.take.result inv.items h.1.1 c.take.ensures.value,
        h.1.2,
      );
    }

pub loop-latch-preserved : goal.loop-latch-preserved
loop-latch-preserved g c =
    let inv = c.loop-latch.invariant in
    let l : ℕ = c.loop-latch.latch in
    let o = c.take.ensures.others in
    let old = c.loop-latch.slots.slots in
    let v = c.store_in-store.ensures.value in
    let below : l < c.args.end = omega arith in
    let here : HasValue (slots_items c.args.slots.now.slots) l (Fiber c.store_in-store.result) =
    (v.0, ap (λ xs. get_elem? xs l) (sym inv.items) ∙ c.take.ensures.value ∙ ap some v.1, v.2) in
    record {
      items = o.0 ∙ inv.items;
      sized = o.2 ∙ inv.sized;
      left = subst (λ (f : List Bool). (k : ℕ) → k < l + 1 → get_or f k false
          ≡ false) (sym o.1) (left_more (slots_filled old) l (slots_len old) old.ok.1 (let s = inv.sized in omega arith) inv.left);
      full = subst (λ (f : List Bool). (k : ℕ) → l + 1 ≤ k → k ≤ c.args.end
          → IsTrue (get_or f k false)) (sym o.1) (full_less (slots_filled old) l c.args.end inv.full);
      room = let a = inv.room in let b = c.push-pushed.ensures.capacity in omega arith;
      taken = subst (AreFromSlots (l + 1) (slots_items c.args.slots.now.slots)) (sym c.in-Ok.ensures.items)
          (taken_more l (slots_items c.args.slots.now.slots) c.loop-latch.stores.items c.store_in-store.result inv.taken here);
    }
