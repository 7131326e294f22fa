use Rattle.std.proofs.Common.{sym, subst}
use Rattle.fiber_latch.specs.Seats.{SeatState, IsTop}
use Rattle.fiber_latch.specs.Rule.{GoodAt}
use Rattle.fiber_latch.proofs.SittingLemmas.{can_return}
use Rattle.fiber_latch.proofs.latches.Latches.give.Goals as goal

pub give-requires-clause-ready : goal.give-requires-clause-ready
give-requires-clause-ready g c =
    let s = c.seat.inside in
    let is = sym c.seat.view_is in
    let good = GoodAt g.C.Keep.content g.C.Keep.sound in
    can_return s.token.table_id s.first s.last s.token.me c.seat.invariant.0 good c.args.latch c.args.kept
    (subst (λ (x : SeatState). IsTop c.args.latch x.held) is c.requires.latch)
    (subst (λ (x : SeatState). good x.config x.seen c.args.latch c.args.kept) is c.requires.value)
