use Rattle.std.proofs.Common.{ℕ, ◌==◌, List, [], ◌∷◌, ap, subst}
use Rattle.fiber_latch.specs.Seats.{SeatState}
use Rattle.fiber_store.specs.Stores.{IsSound, store_content}
use Rattle.sessions.specs.Noting.{Notes, stop_of_take}
use Rattle.sessions.proofs.EngineLemmas.{seat_end}
use Rattle.sessions.proofs.HeldCalls.{Holds-noted, noted_given}
use Rattle.sessions.proofs.NotingLemmas.{Notes-later}
use Rattle.sessions.proofs.engine.Engine.enter_held.Goals as goal

pub give_all-requires-clause-holds : goal.give_all-requires-clause-holds
give_all-requires-clause-holds g c = (
  c.args.entry.turn.session,
  Holds-noted store_content IsSound c.args.entry.turn.session c.args.seat.now c.enter.new.seat c.args.hands.items c.requires.holds c.in-Err.ensures.err,
)

pub returns-in-Err-clause-err : goal.returns-in-Err-clause-err
returns-in-Err-clause-err g c = noted_given c.args.seat.now c.enter.new.seat c.give_all.new.seat c.in-Err.ensures.err c.give_all.ensures.seat

pub returns-in-Err-clause-notes : goal.returns-in-Err-clause-notes
returns-in-Err-clause-notes g c =
    let ends = seat_end c.self.inside.latches c.args.self.now c.self.inside.decls c.self.inside.end c.args.seat.now c.self.invariant c.self.view_is
    c.requires.engine in
    let stop : List (ℕ × ℕ) = (c.in-Err.busy.latch, c.in-Err.busy.holder) ∷ [] in
    subst (λ (end : ℕ). Notes g.T.Taker.waits (λ (l : ℕ). l == end) stop c.args.seat.now c.give_all.new.seat) ends
    (Notes-later g.T.Taker.waits (λ (l : ℕ). l == c.self.inside.end) stop c.args.seat.now c.enter.new.seat c.give_all.new.seat
    (ap (λ (s : SeatState). s.conflicts) c.give_all.ensures.seat) c.in-Err.ensures.notes)

pub returns-clause-notes : goal.returns-clause-notes
returns-clause-notes g c =
    let ends = seat_end c.self.inside.latches c.args.self.now c.self.inside.decls c.self.inside.end c.args.seat.now c.self.invariant c.self.view_is
    c.requires.engine in
    subst (λ (end : ℕ). Notes g.T.Taker.waits (λ (l : ℕ). l == end) [] c.args.seat.now c.enter.new.seat) ends c.in_default.ensures.notes
