use Rattle.std.proofs.Common.{[], ◌≡◌, ◌<◌, ◌≤◌, sym, subst}
use Rattle.fiber_latch.specs.Seats.{SeatState}
use Rattle.fiber_latch.proofs.SittingLemmas.{is_idle}
use Rattle.fiber_latch.proofs.latches.Latches.split.Goals as goal

pub split-token-requires-clause-ready : goal.split-token-requires-clause-ready
split-token-requires-clause-ready g c =
    let s = c.seat.inside in
    let is = sym c.seat.view_is in
    let r = c.requires in (
      is_idle s.token.table_id s.first s.last s.token.me c.seat.invariant.0 (subst (λ (x : SeatState). x.held ≡ []) is r.idle),
      subst (λ (x : SeatState). x.first < c.args.at) is r.at.0,
      subst (λ (x : SeatState). c.args.at ≤ x.last) is r.at.1,
    )
