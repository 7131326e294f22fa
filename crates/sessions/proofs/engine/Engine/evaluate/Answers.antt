use Rattle.std.proofs.Common.{◌≡◌, ℕ, ◌==◌, true, List, [], refl, ap, sym, subst, ◌∙◌}
use Rattle.std.proofs.lemmas.Result.{err_from_is_err_and}
use Rattle.commit_core.specs.Machine.{commit_needs}
use Rattle.dt_model.specs.declared.calls.Call.TheVariants.{Query}
use Rattle.dt_model.specs.declared.calls.Entry.{Entry}
use Rattle.dt_model.specs.declared.declared_tensors.Decls.{Decls}
use Rattle.dt_model.specs.declared.replies.Reply.TheVariants.{Result}
use Rattle.dt_model.specs.Latches.{needs}
use Rattle.dt_model.specs.Tensors.{latch_count}
use Rattle.fiber_latch.specs.Seats.{SeatState}
use Rattle.fiber_store.specs.Stores.{StoreState, IsSound, store_content}
use Rattle.sessions.specs.declared.hands.Hand.{Hand}
use Rattle.sessions.specs.Calling.{CanMake, HasMade}
use Rattle.sessions.specs.Holding.{due_of, Holds}
use Rattle.sessions.specs.Noting.{Notes}
use Rattle.sessions.proofs.CallingLemmas.{IsGivenUp-noted}
use Rattle.sessions.proofs.EngineLemmas.{seat_decls, seat_end, seat_journal}
use Rattle.sessions.proofs.HeldCalls.{Notes-commit, Notes-made, held_can_enter, behind_query}
use Rattle.sessions.proofs.NotingLemmas.{Notes-weaker, Notes-later, Notes-none, commit_needs-own}
use Rattle.sessions.proofs.QueryCalls.{IsAnswer, answered_made}
use Rattle.sessions.proofs.engine.Engine.evaluate.Goals as goal

pub returns-in_default-clause-notes : goal.returns-in_default-clause-notes
returns-in_default-clause-notes g c =
    Notes-none g.T.Taker.waits (commit_needs c.args.seat.now.config.world.decls (Query c.args.stmt.now)) c.args.seat.now c.args.seat.now refl

pub hold-requires-clause-ready : goal.hold-requires-clause-ready
hold-requires-clause-ready g c = subst (λ (e : Entry). CanMake e c.args.seat.now) (sym c.in-Ok.ensures.value) c.requires.ready

pub returns-in_err-held-clause-err : goal.returns-in_err-held-clause-err
returns-in_err-held-clause-err g c =
    let p = err_from_is_err_and c.from_residual.result c.from_residual.ensures.1 in
    rw p.1 c.in_err-held.ensures.err

pub returns-in_err-held-clause-notes : goal.returns-in_err-held-clause-notes
returns-in_err-held-clause-notes g c =
    let p = err_from_is_err_and c.from_residual.result c.from_residual.ensures.1 in
    let d = c.args.seat.now.config.world.decls in
    let call = Query c.args.stmt.now in
    rw (p.1, p.2) (Notes-weaker g.T.Taker.waits (needs d c.in-Ok.entry.call) (commit_needs d call) _ c.args.seat.now c.hold.new.seat
    (λ l n. commit_needs-own d call l (subst (λ (e : Entry). needs d e.call l ≡ true) c.in-Ok.ensures.value n)) c.in_err-held.ensures.notes)

pub returns-in_default-answer_of-clause-notes : goal.returns-in_default-answer_of-clause-notes
returns-in_default-answer_of-clause-notes g c =
    let d = c.args.seat.now.config.world.decls in
    let call = Query c.args.stmt.now in
    Notes-later g.T.Taker.waits (commit_needs d call) [] c.args.seat.now c.hold.new.seat c.give_all.new.seat
    (ap (λ (s : SeatState). s.conflicts) c.give_all.ensures.seat)
    (Notes-weaker g.T.Taker.waits (needs d c.in-Ok.entry.call) (commit_needs d call) [] c.args.seat.now c.hold.new.seat
    (λ l n. commit_needs-own d call l (subst (λ (e : Entry). needs d e.call l ≡ true) c.in-Ok.ensures.value n)) c.in_ok-held.ensures.notes)

pub enter_held-requires-clause-ready : goal.enter_held-requires-clause-ready
enter_held-requires-clause-ready g c =
    held_can_enter store_content IsSound due_of c.in-Ok.entry c.args.seat.now c.hold.new.seat c.in_ok-held.held.items c.hold.ensures.goes
    c.in_ok-held.ensures.holds c.in_ok-held.ensures.ready
    (subst (λ (e : Entry). CanMake e c.args.seat.now) (sym c.in-Ok.ensures.value) c.requires.ready)

pub returns-in_err-hands-clause-err : goal.returns-in_err-hands-clause-err
returns-in_err-hands-clause-err g c =
    let p = err_from_is_err_and c.from_residual-in_err-hands.result c.from_residual-in_err-hands.ensures.1 in
    rw p.1 (IsGivenUp-noted c.args.seat.now c.hold.new.seat c.enter_held.new.seat c.hold.ensures.goes c.requires.ready.idle c.in_err-hands.ensures.err)

pub returns-in_err-hands-clause-notes : goal.returns-in_err-hands-clause-notes
returns-in_err-hands-clause-notes g c =
    let p = err_from_is_err_and c.from_residual-in_err-hands.result c.from_residual-in_err-hands.ensures.1 in
    let old = c.args.seat.now in
    let call = Query c.args.stmt.now in
    let ends = seat_end c.self.inside.latches c.args.self.now c.self.inside.decls c.self.inside.end old c.self.invariant c.self.view_is c.requires.engine in
    let journal = seat_journal c.self.inside.latches c.args.self.now c.self.inside.decls c.self.inside.end old c.self.invariant c.self.view_is
    c.requires.engine in
    rw (p.1, p.2) (Notes-commit g.T.Taker.waits call _ c.hold.new.seat.config.end old c.hold.new.seat c.enter_held.new.seat c.hold.ensures.goes
    (ap (λ (s : SeatState). s.config.end) c.hold.ensures.goes.rest ∙ sym ends ∙ journal)
    (subst (λ (e : Entry). Notes g.T.Taker.waits (needs old.config.world.decls e.call) [] old c.hold.new.seat) c.in-Ok.ensures.value c.in_ok-held.ensures.notes)
    c.in_err-hands.ensures.notes)

pub give_all-requires-2-clause-holds : goal.give_all-requires-2-clause-holds
give_all-requires-2-clause-holds g c = (
  c.in-Ok.entry.turn.session,
  subst (λ hands. Holds store_content IsSound c.in-Ok.entry.turn.session c.enter_held.new.seat hands.items)
      (sym c.in_ok-hands.ensures.ok.0)
      (behind_query store_content IsSound due_of c.in-Ok.entry c.args.seat.now c.hold.new.seat c.in_ok-held.held.items c.hold.ensures.goes
      c.in_ok-held.ensures.holds c.in_ok-held.ensures.ready c.enter_held.new.seat c.in_ok-hands.ensures.ok.1 c.args.stmt.now
      (ap (λ (e : Entry). e.call) c.in-Ok.ensures.value)),
)

pub returns-clause-ok : goal.returns-clause-ok
returns-clause-ok g c =
    let decls = seat_decls c.self.inside.latches c.args.self.now c.self.inside.decls c.self.inside.end c.args.seat.now c.self.invariant c.self.view_is
    c.requires.engine
    ∙ sym (ap (λ (s : SeatState). s.config.world.decls) c.hold.ensures.goes.rest) in
    subst (λ (e : Entry). HasMade e (Result c.in-Ok-answer_of.pairs) c.args.seat.now c.give_all-2.new.seat) c.in-Ok.ensures.value
    (answered_made c.in-Ok.entry c.args.seat.now c.hold.new.seat c.in_ok-held.held.items c.hold.ensures.goes
    c.in_ok-held.ensures.holds c.in_ok-held.ensures.ready c.enter_held.new.seat c.in_ok-hands.ensures.ok.1 c.args.stmt.now
    (ap (λ (e : Entry). e.call) c.in-Ok.ensures.value) c.self.inside.decls decls c.in-Ok-answer_of.pairs c.in-Ok-answer_of.ensures.value c.give_all-2.new.seat
    c.requires.ready.idle c.give_all-2.ensures.seat)

pub returns-clause-notes : goal.returns-clause-notes
returns-clause-notes g c =
    let old = c.args.seat.now in
    let call = Query c.args.stmt.now in
    let ends = seat_end c.self.inside.latches c.args.self.now c.self.inside.decls c.self.inside.end old c.self.invariant c.self.view_is c.requires.engine in
    let journal = seat_journal c.self.inside.latches c.args.self.now c.self.inside.decls c.self.inside.end old c.self.invariant c.self.view_is
    c.requires.engine in
    Notes-made g.T.Taker.waits call [] c.hold.new.seat.config.end old c.hold.new.seat c.enter_held.new.seat c.give_all-2.new.seat c.hold.ensures.goes
    (ap (λ (s : SeatState). s.config.end) c.hold.ensures.goes.rest ∙ sym ends ∙ journal)
    (subst (λ (e : Entry). Notes g.T.Taker.waits (needs old.config.world.decls e.call) [] old c.hold.new.seat) c.in-Ok.ensures.value c.in_ok-held.ensures.notes)
    c.in_ok-hands.ensures.notes (ap (λ (s : SeatState). s.conflicts) c.give_all-2.ensures.seat)
