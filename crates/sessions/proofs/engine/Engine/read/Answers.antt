use Rattle.std.proofs.Common.{arith, ◌≡◌, ◌<◌, ◌∙◌, ap, sym, subst}
use Rattle.std.proofs.lemmas.Result.{err_from_is_err_and}
use Rattle.dt_model.specs.declared.declared_tensors.Decls.{Decls}
use Rattle.dt_model.specs.Latches.{latch_of_cell}
use Rattle.fiber_store.specs.Stores.{IsSound, store_content}
use Rattle.sessions.specs.Noting.{stop_of_take}
use Rattle.sessions.proofs.EngineLemmas.{seat_decls, seat_end, seat_journal}
use Rattle.sessions.proofs.GetCalls.{get_can_enter, get_given_up, get_good, get_made, get_notes, get_notes-cell, get_still_good, get_unmade}
use Rattle.sessions.proofs.engine.Engine.read.Goals as goal

pub returns-in_err-store-clause-err : goal.returns-in_err-store-clause-err
returns-in_err-store-clause-err g c =
    let p = err_from_is_err_and c.from_residual.result c.from_residual.ensures.1 in
    rw p.1 (get_unmade c.args.seat.now c.fiber.new.seat c.in_err-store.ensures.err)

pub returns-in_err-store-clause-notes : goal.returns-in_err-store-clause-notes
returns-in_err-store-clause-notes g c =
    let decls = seat_decls c.self.inside.latches c.args.self.now c.self.inside.decls c.self.inside.end c.args.seat.now c.self.invariant c.self.view_is
    c.requires.engine in
    let here : c.latch_of-latch.result ≡ latch_of_cell c.args.seat.now.config.world.decls c.args.cell = c.latch_of-latch.ensures.value
    ∙ ap (λ (d : Decls). latch_of_cell d c.args.cell) decls in
    let p = err_from_is_err_and c.from_residual.result c.from_residual.ensures.1 in
    rw (p.1, p.2) (get_notes-cell g.T.Taker.waits c.latch_of-latch.result c.args.cell _ c.args.seat.now c.fiber.new.seat here c.in_err-store.ensures.notes)

pub enter-requires-clause-ready : goal.enter-requires-clause-ready
enter-requires-clause-ready g c =
    let old = c.args.seat.now in
    let wait = c.in_ok-store.ensures.ok in
    let decls = seat_decls c.self.inside.latches c.args.self.now c.self.inside.decls c.self.inside.end old c.self.invariant c.self.view_is c.requires.engine in
    let ends = seat_end c.self.inside.latches c.args.self.now c.self.inside.decls c.self.inside.end old c.self.invariant c.self.view_is c.requires.engine in
    let here : c.latch_of-latch.result ≡ latch_of_cell old.config.world.decls c.args.cell = c.latch_of-latch.ensures.value
    ∙ ap (λ (d : Decls). latch_of_cell d c.args.cell) decls in
    let under : c.latch_of-latch.result < old.config.end = let b = c.latch_of-latch.ensures.below in let z = c.self.invariant.latches in omega arith in
    get_can_enter store_content IsSound c.latch_of-latch.result c.args.turn c.args.cell old wait.0 c.fiber.new.seat c.in_ok-store.store wait.1
    c.requires.ready.idle here c.requires.ready under

pub give-requires-clause-value : goal.give-requires-clause-value
give-requires-clause-value g c =
    let old = c.args.seat.now in
    let wait = c.in_ok-store.ensures.ok in
    let decls = seat_decls c.self.inside.latches c.args.self.now c.self.inside.decls c.self.inside.end old c.self.invariant c.self.view_is c.requires.engine in
    let here : c.latch_of-latch.result ≡ latch_of_cell old.config.world.decls c.args.cell = c.latch_of-latch.ensures.value
    ∙ ap (λ (d : Decls). latch_of_cell d c.args.cell) decls in
    get_still_good store_content IsSound c.latch_of-latch.result c.args.turn c.args.cell old wait.0 c.fiber.new.seat c.in_ok-store.store wait.1
    c.requires.ready.idle here c.enter.new.seat c.in-Err.ensures.err

pub returns-in-Err-clause-err : goal.returns-in-Err-clause-err
returns-in-Err-clause-err g c =
    let old = c.args.seat.now in
    let wait = c.in_ok-store.ensures.ok in
    let decls = seat_decls c.self.inside.latches c.args.self.now c.self.inside.decls c.self.inside.end old c.self.invariant c.self.view_is c.requires.engine in
    let here : c.latch_of-latch.result ≡ latch_of_cell old.config.world.decls c.args.cell = c.latch_of-latch.ensures.value
    ∙ ap (λ (d : Decls). latch_of_cell d c.args.cell) decls in
    get_given_up store_content IsSound c.latch_of-latch.result c.args.turn c.args.cell old wait.0 c.fiber.new.seat c.in_ok-store.store wait.1
    c.requires.ready.idle here c.enter.new.seat c.give.new.seat c.in-Err.ensures.err c.give.ensures.seat

pub returns-in-Err-clause-notes : goal.returns-in-Err-clause-notes
returns-in-Err-clause-notes g c =
    let old = c.args.seat.now in
    let wait = c.in_ok-store.ensures.ok in
    let decls = seat_decls c.self.inside.latches c.args.self.now c.self.inside.decls c.self.inside.end old c.self.invariant c.self.view_is c.requires.engine in
    let journal = seat_journal c.self.inside.latches c.args.self.now c.self.inside.decls c.self.inside.end old c.self.invariant c.self.view_is
    c.requires.engine in
    let here : c.latch_of-latch.result ≡ latch_of_cell old.config.world.decls c.args.cell = c.latch_of-latch.ensures.value
    ∙ ap (λ (d : Decls). latch_of_cell d c.args.cell) decls in
    get_notes store_content IsSound c.latch_of-latch.result c.args.turn c.args.cell old wait.0 c.fiber.new.seat c.in_ok-store.store wait.1
    c.requires.ready.idle here g.T.Taker.waits c.self.inside.end _ c.enter.new.seat c.give.new.seat journal c.in_ok-store.ensures.notes
    c.in-Err.ensures.notes c.give.ensures.seat

pub give-requires-2-clause-value : goal.give-requires-2-clause-value
give-requires-2-clause-value g c =
    let old = c.args.seat.now in
    let wait = c.in_ok-store.ensures.ok in
    let decls = seat_decls c.self.inside.latches c.args.self.now c.self.inside.decls c.self.inside.end old c.self.invariant c.self.view_is c.requires.engine in
    let here : c.latch_of-latch.result ≡ latch_of_cell old.config.world.decls c.args.cell = c.latch_of-latch.ensures.value
    ∙ ap (λ (d : Decls). latch_of_cell d c.args.cell) decls in
    get_good store_content IsSound c.latch_of-latch.result c.args.turn c.args.cell old wait.0 c.fiber.new.seat c.in_ok-store.store wait.1
    c.requires.ready.idle here c.enter.new.seat c.in_default.ensures.ok

pub returns-clause-ok : goal.returns-clause-ok
returns-clause-ok g c =
    let old = c.args.seat.now in
    let wait = c.in_ok-store.ensures.ok in
    let decls = seat_decls c.self.inside.latches c.args.self.now c.self.inside.decls c.self.inside.end old c.self.invariant c.self.view_is c.requires.engine in
    let here : c.latch_of-latch.result ≡ latch_of_cell old.config.world.decls c.args.cell = c.latch_of-latch.ensures.value
    ∙ ap (λ (d : Decls). latch_of_cell d c.args.cell) decls in
    get_made store_content IsSound c.latch_of-latch.result c.args.turn c.args.cell old wait.0 c.fiber.new.seat c.in_ok-store.store wait.1
    c.requires.ready.idle here c.enter.new.seat c.give-2.new.seat c.get-value.result c.in_default.ensures.ok c.give-2.ensures.seat c.get-value.ensures.value

pub returns-clause-notes : goal.returns-clause-notes
returns-clause-notes g c =
    let old = c.args.seat.now in
    let wait = c.in_ok-store.ensures.ok in
    let decls = seat_decls c.self.inside.latches c.args.self.now c.self.inside.decls c.self.inside.end old c.self.invariant c.self.view_is c.requires.engine in
    let journal = seat_journal c.self.inside.latches c.args.self.now c.self.inside.decls c.self.inside.end old c.self.invariant c.self.view_is
    c.requires.engine in
    let here : c.latch_of-latch.result ≡ latch_of_cell old.config.world.decls c.args.cell = c.latch_of-latch.ensures.value
    ∙ ap (λ (d : Decls). latch_of_cell d c.args.cell) decls in
    get_notes store_content IsSound c.latch_of-latch.result c.args.turn c.args.cell old wait.0 c.fiber.new.seat c.in_ok-store.store wait.1
    c.requires.ready.idle here g.T.Taker.waits c.self.inside.end _ c.enter.new.seat c.give-2.new.seat journal c.in_ok-store.ensures.notes
    c.in_default.ensures.notes c.give-2.ensures.seat
