use Rattle.std.proofs.Common.{[], ap, subst}
use Rattle.dt_model.specs.declared.declared_tensors.Decls.{Decls}
use Rattle.dt_model.specs.Latches.{needs}
use Rattle.fiber_latch.specs.Seats.{SeatState}
use Rattle.sessions.specs.Noting.{Notes, stop_of_fault}
use Rattle.sessions.proofs.CallingLemmas.{GoesOn-more, GoesOn-by, IsGivenUp-goes, idle_again}
use Rattle.sessions.proofs.EngineLemmas.{seat_decls}
use Rattle.sessions.proofs.NotingLemmas.{Notes-later}
use Rattle.sessions.proofs.engine.Engine.hold.Goals as goal

pub returns-in-Err-clause-goes : goal.returns-in-Err-clause-goes
returns-in-Err-clause-goes g c =
    GoesOn-more c.args.seat.now c.take_all.new.seat c.give_all.new.seat c.in-Err.ensures.goes
    (GoesOn-by c.take_all.new.seat c.give_all.new.seat _ _ c.give_all.ensures.seat)

pub returns-in-Err-clause-err : goal.returns-in-Err-clause-err
returns-in-Err-clause-err g c =
    IsGivenUp-goes c.args.seat.now c.take_all.new.seat c.give_all.new.seat c.in-Err.ensures.goes
    (idle_again c.args.seat.now c.take_all.new.seat c.give_all.new.seat c.requires.ready.idle c.give_all.ensures.seat)

pub returns-in-Err-clause-notes : goal.returns-in-Err-clause-notes
returns-in-Err-clause-notes g c =
    let decls = seat_decls c.self.inside.latches c.args.self.now c.self.inside.decls c.self.inside.end c.args.seat.now c.self.invariant c.self.view_is
    c.requires.engine in
    Notes-later g.T.Taker.waits (needs c.args.seat.now.config.world.decls c.args.entry.now.call) (stop_of_fault c.in-Err.fault) c.args.seat.now
    c.take_all.new.seat c.give_all.new.seat (ap (λ (s : SeatState). s.conflicts) c.give_all.ensures.seat)
    (subst (λ (d : Decls). Notes g.T.Taker.waits (needs d c.args.entry.now.call) (stop_of_fault c.in-Err.fault) c.args.seat.now c.take_all.new.seat) decls
    c.in-Err.ensures.notes)

pub returns-clause-notes : goal.returns-clause-notes
returns-clause-notes g c =
    let decls = seat_decls c.self.inside.latches c.args.self.now c.self.inside.decls c.self.inside.end c.args.seat.now c.self.invariant c.self.view_is
    c.requires.engine in
    subst (λ (d : Decls). Notes g.T.Taker.waits (needs d c.args.entry.now.call) [] c.args.seat.now c.take_all.new.seat) decls c.in_default.ensures.notes
