use Rattle.std.proofs.Common.{arith, ℕ, List, ◌==◌, [], ◌∷◌, ◌∙◌, sym, ap, subst}
use Rattle.fiber_latch.specs.declared.view.TableConfig.{TableConfig}
use Rattle.fiber_latch.specs.Seats.{SeatState}
use Rattle.sessions.specs.Entering.{IsAboveHeld}
use Rattle.sessions.proofs.CallingLemmas.{Extends-conflicts, IsNext-taken}
use Rattle.sessions.proofs.EnteringLemmas.{HasEntered-written}
use Rattle.sessions.proofs.NotingLemmas.{Notes-later}
use Rattle.sessions.proofs.entering.enter.Goals as goal

pub take-requires-clause-latch : goal.take-requires-clause-latch
take-requires-clause-latch g c =
    let r = c.requires.ready in
    let e = c.requires.end.0 in
    (omega arith, subst (λ (l : ℕ). IsAboveHeld l c.args.seat.now.held) (ap (λ (x : TableConfig). x.end) c.requires.table.1 ∙ sym e) r.below)

pub write-requires-clause-next : goal.write-requires-clause-next
write-requires-clause-next g c =
    let taken = c.in-Ok-Journal.ensures.ok in
    let old = c.args.seat.now in
    IsNext-taken c.args.entry.turn old c.take.new.seat ((c.args.end, c.args.entry.turn.session) ∷ old.held) taken.0 taken.1.rest
    (Extends-conflicts old taken.0 old.seen c.take.new.seat.seen taken.1.grown) c.requires.ready.next

pub returns-in-Ok-Journal-clause-ok : goal.returns-in-Ok-Journal-clause-ok
returns-in-Ok-Journal-clause-ok g c =
    let taken = c.in-Ok-Journal.ensures.ok in
    HasEntered-written c.args.entry c.args.seat.now c.take.new.seat c.write.new.seat (c.args.end, c.args.entry.turn.session) taken.0 taken.1.rest
    taken.1.grown c.write.ensures.seat

pub returns-in-Ok-Journal-clause-notes : goal.returns-in-Ok-Journal-clause-notes
returns-in-Ok-Journal-clause-notes g c =
    Notes-later g.T.Taker.waits (λ (l : ℕ). l == c.args.end) [] c.args.seat.now c.take.new.seat c.write.new.seat
    (ap (λ (s : SeatState). s.conflicts) c.write.ensures.seat) c.in-Ok-Journal.ensures.notes
