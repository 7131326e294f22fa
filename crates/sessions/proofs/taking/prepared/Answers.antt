use Rattle.std.proofs.Common.{ℕ, List, ◌==◌, [], ap}
use Rattle.fiber_store.specs.Stores.{IsSound, store_content}
use Rattle.fiber_latch.specs.Seats.{SeatState}
use Rattle.sessions.proofs.HoldingLemmas.{IsAsBefore-again, IsAsBefore-noted, IsTaken-prepared, IsTaken-good}
use Rattle.sessions.proofs.NotingLemmas.{Notes-later}
use Rattle.sessions.proofs.taking.prepared.Goals as goal

pub returns-in-Err-clause-err : goal.returns-in-Err-clause-err
returns-in-Err-clause-err g c = IsAsBefore-noted c.args.seat.now c.fiber.new.seat c.in-Err.ensures.err

pub returns-then-is_err-clause-err : goal.returns-then-is_err-clause-err
returns-then-is_err-clause-err g c =
    let wait = c.in-Ok.ensures.ok in
    IsAsBefore-again c.args.seat.now c.fiber.new.seat c.give.new.seat wait.0 c.args.latch c.args.session wait.1.rest wait.1.grown c.give.ensures.seat

pub returns-then-is_err-clause-notes : goal.returns-then-is_err-clause-notes
returns-then-is_err-clause-notes g c =
    Notes-later g.T.Taker.waits (λ (l : ℕ). l == c.args.latch) [] c.args.seat.now c.fiber.new.seat c.give.new.seat
    (ap (λ (s : SeatState). s.conflicts) c.give.ensures.seat) c.in-Ok.ensures.notes

pub give-requires-clause-value : goal.give-requires-clause-value
give-requires-clause-value g c =
    let wait = c.in-Ok.ensures.ok in
    let met : SeatState = record c.args.seat.now { conflicts = wait.0 } in
    IsTaken-good store_content IsSound c.args.latch c.args.session met c.fiber.new.seat c.prepare_for.new.store
    (IsTaken-prepared store_content IsSound c.args.latch c.args.session met c.fiber.new.seat c.in-Ok.store c.prepare_for.new.store
    wait.1 c.prepare_for.ensures.content c.prepare_for.ensures.sound)

pub returns-clause-ok : goal.returns-clause-ok
returns-clause-ok g c =
    let wait = c.in-Ok.ensures.ok in
    let met : SeatState = record c.args.seat.now { conflicts = wait.0 } in (
      wait.0,
      IsTaken-prepared store_content IsSound c.args.latch c.args.session met c.fiber.new.seat c.in-Ok.store c.prepare_for.new.store
          wait.1 c.prepare_for.ensures.content c.prepare_for.ensures.sound,
    )
