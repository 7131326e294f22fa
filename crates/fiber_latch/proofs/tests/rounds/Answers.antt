use Rattle.std.proofs.Common.{◌∙◌, arith, refl}
use Rattle.fiber_latch.proofs.TrialGoodLemmas.{unused_rests, rests_done}
use Rattle.fiber_latch.proofs.tests.rounds.Goals as goal

pub loop-number-init : goal.loop-number-init
loop-number-init g c = record { sits = (0, (refl, unused_rests c.args.latches.now c.requires.seat.0 c.args.seat c.requires.seat.1)); first = refl; last = refl }

pub round-requires-clause-seat : goal.round-requires-clause-seat
round-requires-clause-seat g c = let s = c.loop-number.invariant.sits in let e = s.1.0 in (s.0, s.1.1, omega arith)

pub loop-number-preserved : goal.loop-number-preserved
loop-number-preserved g c =
    let inv = c.loop-number.invariant in
    let r = c.round.ensures.seat in
    record { sits = (c.loop-number.number, (refl, r.0)); first = r.1 ∙ inv.first; last = r.2 ∙ inv.last }

pub returns : goal.returns
returns g c = let inv = c.loop-number.invariant in record
    { seat = rests_done c.args.latches.now inv.sits.0 c.args.seat.first c.args.seat.last c.loop-number.seat inv.sits.1.1 inv.first inv.last }
