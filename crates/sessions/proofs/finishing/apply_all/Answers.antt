use Rattle.std.proofs.Common.{List, ◌∙◌, sym, subst, ap}
use Rattle.dt_model.specs.declared.calls.Update.{Update}
use Rattle.dt_model.specs.Contents.{with_updates}
use Rattle.fiber_latch.specs.declared.rule.Kept.TheVariants.{Fiber}
use Rattle.fiber_latch.specs.Rule.{GoodAt}
use Rattle.fiber_latch.specs.Seats.{SeatState}
use Rattle.fiber_store.specs.Stores.{IsSound, store_content}
use Rattle.sessions.proofs.HoldingLemmas.{top_in, rest_in, gave_top, good_made}
use Rattle.sessions.proofs.finishing.apply_all.Goals as goal

pub give-requires-clause-value : goal.give-requires-clause-value
give-requires-clause-value c =
    let inv = c.loop-hand.invariant in
    let h = c.in-Some.hand in
    let old = c.args.seat.now in
    let here = top_in h c.pop.new.self.items c.loop-hand.hands.items c.in-Some.ensures.items in
    subst (λ (x : SeatState). GoodAt store_content IsSound x.config x.seen h.latch (Fiber c.apply_due.new.store)) (sym inv.3)
    (good_made store_content IsSound old.config inv.2 old.seen h.latch inv.1 h.store c.apply_due.new.store (inv.5 h here) inv.4
    (c.apply_due.ensures.content ∙ ap (λ (us : List Update). with_updates (store_content h.store) us) (inv.6 h here))
    (c.apply_due.ensures.sound old.config.world.decls h.latch))

pub loop-hand-preserved : goal.loop-hand-preserved
loop-hand-preserved c =
    let inv = c.loop-hand.invariant in
    let h = c.in-Some.hand in (
      inv.0,
      inv.1,
      inv.2,
      gave_top inv.0 c.args.seat.now c.loop-hand.seat c.give.new.seat c.loop-hand.hands.items c.pop.new.self.items h inv.3 c.in-Some.ensures.items
          c.give.ensures.seat,
      inv.4,
      λ k i. inv.5 k (rest_in k h c.pop.new.self.items c.loop-hand.hands.items c.in-Some.ensures.items i),
      λ k i. inv.6 k (rest_in k h c.pop.new.self.items c.loop-hand.hands.items c.in-Some.ensures.items i),
    )
