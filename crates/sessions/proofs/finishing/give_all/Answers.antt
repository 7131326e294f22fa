use Rattle.std.proofs.Common.{sym, subst}
use Rattle.fiber_latch.specs.declared.rule.Kept.TheVariants.{Fiber}
use Rattle.fiber_latch.specs.Rule.{GoodAt}
use Rattle.fiber_latch.specs.Seats.{SeatState}
use Rattle.fiber_store.specs.Stores.{IsSound, store_content}
use Rattle.sessions.proofs.HoldingLemmas.{top_in, rest_in, gave_top}
use Rattle.sessions.proofs.finishing.give_all.Goals as goal

pub give-requires-clause-value : goal.give-requires-clause-value
give-requires-clause-value c =
    let inv = c.loop-hand.invariant in
    let h = c.in-Some.hand in
    subst (λ (x : SeatState). GoodAt store_content IsSound x.config x.seen h.latch (Fiber h.store)) (sym inv.1)
    (inv.2 h (top_in h c.pop.new.self.items c.loop-hand.hands.items c.in-Some.ensures.items))

pub loop-hand-preserved : goal.loop-hand-preserved
loop-hand-preserved c =
    let inv = c.loop-hand.invariant in
    let h = c.in-Some.hand in (
      inv.0,
      gave_top inv.0 c.args.seat.now c.loop-hand.seat c.give.new.seat c.loop-hand.hands.items c.pop.new.self.items h inv.1 c.in-Some.ensures.items
          c.give.ensures.seat,
      λ k i. inv.2 k (rest_in k h c.pop.new.self.items c.loop-hand.hands.items c.in-Some.ensures.items i),
    )
