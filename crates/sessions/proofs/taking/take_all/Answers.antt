use Rattle.std.proofs.Common.{arith, ℕ, ◌+◌, ◌≡◌, ◌<◌, ◌≤◌, ◌==◌, true, ◌∙◌, sym, subst, ap, IsTrue, List, ◌++◌, ◌∷◌, [], Some, None, drop, refl}
use Rattle.std.proofs.lemmas.Result.{err_from_is_err_and}
use Rattle.dt_model.specs.declared.declared_tensors.Decls.{Decls}
use Rattle.dt_model.specs.Latches.{needs}
use Rattle.dt_model.specs.Tensors.{latch_count}
use Rattle.commit_core.proofs.NeededLatches.{needs_below}
use Rattle.fiber_latch.specs.declared.view.TableConfig.{TableConfig}
use Rattle.fiber_latch.specs.Seats.{SeatState}
use Rattle.fiber_store.specs.Stores.{StoreState, IsSound, store_content}
use Rattle.sessions.specs.declared.hands.Hand.{Hand}
use Rattle.sessions.specs.declared.needing.LatchRange.{LatchRange}
use Rattle.sessions.specs.Holding.{due_of, Holds, IsDue}
use Rattle.sessions.specs.Needing.{AreAscending, IsLeastFrom, covers}
use Rattle.sessions.specs.Noting.{stop_of_fault}
use Rattle.sessions.proofs.CallingLemmas.{GoesOn-more}
use Rattle.sessions.proofs.HoldingLemmas.{HasTakenBelow, HasTakenBelow-none, HasTakenBelow-conflicts, IsAboveHeld-next, HasTakenBelow-more, IsReady-all, Holds-before, GoesOn-before}
use Rattle.sessions.proofs.NeedingLemmas.{IsLeastFrom-as}
use Rattle.sessions.proofs.NotingLemmas.{Notes-more, Notes-none, number_is}
use Rattle.sessions.proofs.taking.take_all.Goals as goal

pub next_latch-requires-clause-ascending : goal.next_latch-requires-clause-ascending
next_latch-requires-clause-ascending g c = subst AreAscending (sym c.as_slice-ranges.ensures.value) c.ranges_of-needed.ensures.ascending

pub loop-latch-init : goal.loop-latch-init
loop-latch-init g c = record {
  taken = HasTakenBelow-none store_content IsSound due_of c.args.session c.args.call.now c.args.seat.now c.args.hands.now.items c.requires.idle
      c.requires.empty;
  notes = Notes-none g.T.Taker.waits (needs c.args.decls.now c.args.call.now) c.args.seat.now c.args.seat.now refl;
  place = omega arith;
  left = λ k b. ap (λ (rs : List LatchRange). covers rs k) c.as_slice-ranges.ensures.value ∙ c.ranges_of-needed.ensures.covers k;
}

pub prepared-requires-clause-latch : goal.prepared-requires-clause-latch
prepared-requires-clause-latch g c =
    let inv = c.loop-latch.invariant in
    let d = c.args.decls.now in
    let l : ℕ = c.in-Some.latch in
    let found = IsLeastFrom-as (covers (drop c.loop-latch.place c.as_slice-ranges.result.now)) (needs d c.args.call.now) c.loop-latch.from (Some l) inv.left
    c.in-Some.ensures.least in
    let below = needs_below d c.args.call.now l c.requires.decls.1 c.requires.call found.some_latch.1 in
    let e = c.requires.decls.2 in (
      omega (arith, below),
      IsAboveHeld-next store_content IsSound due_of c.args.session c.args.call.now c.args.seat.now c.loop-latch.from l c.loop-latch.seat
          c.loop-latch.hands.items found.some_latch.0 inv.taken,
    )

pub returns-in_err-store-clause-holds : goal.returns-in_err-store-clause-holds
returns-in_err-store-clause-holds g c =
    Holds-before store_content IsSound c.args.session c.loop-latch.seat c.reserve.new.self.items
    (subst (λ (hs : List (Hand StoreState)). Holds store_content IsSound c.args.session c.loop-latch.seat hs) (sym c.reserve.ensures.items)
    c.loop-latch.invariant.taken.holds) c.prepared.new.seat c.in_err-store.ensures.err

pub returns-in_err-store-clause-goes : goal.returns-in_err-store-clause-goes
returns-in_err-store-clause-goes g c =
    GoesOn-more c.args.seat.now c.loop-latch.seat c.prepared.new.seat c.loop-latch.invariant.taken.goes
    (GoesOn-before c.loop-latch.seat c.prepared.new.seat c.in_err-store.ensures.err)

pub returns-in_err-store-clause-notes : goal.returns-in_err-store-clause-notes
returns-in_err-store-clause-notes g c =
    let inv = c.loop-latch.invariant in
    let d = c.args.decls.now in
    let l : ℕ = c.in-Some.latch in
    let found = IsLeastFrom-as (covers (drop c.loop-latch.place c.as_slice-ranges.result.now)) (needs d c.args.call.now) c.loop-latch.from (Some l) inv.left
    c.in-Some.ensures.least in
    let p = err_from_is_err_and c.from_residual.result c.from_residual.ensures.1 in
    rw (p.1, p.2) (Notes-more g.T.Taker.waits (needs d c.args.call.now) (λ (k : ℕ). k == l) (needs d c.args.call.now)
    (stop_of_fault c.in_err-store.field-0.0) c.args.seat.now c.loop-latch.seat c.prepared.new.seat inv.taken.goes (λ k n. n)
    (λ k is. subst (λ (j : ℕ). needs d c.args.call.now j ≡ true) (sym (number_is k l is)) found.some_latch.1) inv.notes c.in_err-store.ensures.notes)

pub loop-latch-preserved : goal.loop-latch-preserved
loop-latch-preserved g c =
    let inv = c.loop-latch.invariant in
    let d = c.args.decls.now in
    let call = c.args.call.now in
    let l : ℕ = c.in-Some.latch in
    let found = IsLeastFrom-as (covers (drop c.loop-latch.place c.as_slice-ranges.result.now)) (needs d call) c.loop-latch.from (Some l) inv.left
    c.in-Some.ensures.least in
    let some_latch = found.some_latch in
    let below = needs_below d call l c.requires.decls.1 c.requires.call some_latch.1 in
    let wait = c.in_ok-store.ensures.ok in
    let met : SeatState = record c.loop-latch.seat { conflicts = wait.0 } in
    let decls : d ≡ c.loop-latch.seat.config.world.decls = sym (ap (λ (s : SeatState). s.config.world.decls) inv.taken.goes.rest
    ∙ ap (λ (x : TableConfig). x.world.decls) c.requires.table.1 ∙ sym c.requires.decls.0) in
    let hand : Hand StoreState = record { latch = l; store = c.in_ok-store.store } in
    let items : c.push.new.self.items ≡ c.loop-latch.hands.items ++ hand ∷ [] = c.in-Ok.ensures.items
    ∙ ap (λ (hs : List (Hand StoreState)). hs ++ hand ∷ []) c.reserve.ensures.items in
    let ends : c.loop-latch.seat.config.end ≡ latch_count d = ap (λ (s : SeatState). s.config.end) inv.taken.goes.rest
    ∙ ap (λ (x : TableConfig). x.end) c.requires.table.1 ∙ c.requires.decls.2 in
    record {
      taken = subst (λ (hs : List (Hand StoreState)). HasTakenBelow store_content IsSound due_of c.args.session call c.args.seat.now (l
          + 1) c.prepared.new.seat hs) (sym items)
          (HasTakenBelow-more store_content IsSound due_of c.args.session call c.args.seat.now c.loop-latch.from l met
          c.prepared.new.seat c.loop-latch.hands.items c.in_ok-store.store
          (HasTakenBelow-conflicts store_content IsSound due_of c.args.session call c.args.seat.now c.loop-latch.from c.loop-latch.seat
          c.loop-latch.hands.items wait.0 inv.taken) wait.1
          some_latch.0 (omega (arith, below, ends))
          (subst (λ (x : Decls). IsDue due_of x call l c.in_ok-store.store) (sym c.requires.decls.0 ∙ decls) c.in_ok-store.ensures.due)
          (λ k low n. found.least k low (subst (λ (x : Decls). IsTrue (needs x call k)) (sym decls) n)));
      notes = Notes-more g.T.Taker.waits (needs d call) (λ (k : ℕ). k == l) (needs d call) [] c.args.seat.now c.loop-latch.seat c.prepared.new.seat
          inv.taken.goes (λ k n. n) (λ k is. subst (λ (j : ℕ). needs d call j ≡ true) (sym (number_is k l is)) some_latch.1) inv.notes
          c.in_ok-store.ensures.notes;
      place = c.next_latch.ensures.within;
      left = λ k low.
          let after : c.loop-latch.from ≤ k = let a = some_latch.0 in omega arith in
          c.next_latch.ensures.rest k after ∙ inv.left k after;
    }

pub loop-latch-smaller : goal.loop-latch-smaller
loop-latch-smaller g c =
    let d = c.args.decls.now in
    let l : ℕ = c.in-Some.latch in
    let found = IsLeastFrom-as (covers (drop c.loop-latch.place c.as_slice-ranges.result.now)) (needs d c.args.call.now) c.loop-latch.from (Some l)
    c.loop-latch.invariant.left c.in-Some.ensures.least in
    let low = found.some_latch.0 in
    let below = needs_below d c.args.call.now l c.requires.decls.1 c.requires.call found.some_latch.1 in
    let e = c.requires.decls.2 in
    omega arith

pub returns-clause-ok : goal.returns-clause-ok
returns-clause-ok g c =
    let inv = c.loop-latch.invariant in
    let d = c.args.decls.now in
    let decls : c.loop-latch.seat.config.world.decls ≡ d = ap (λ (s : SeatState). s.config.world.decls) inv.taken.goes.rest
    ∙ ap (λ (x : TableConfig). x.world.decls) c.requires.table.1 ∙ sym c.requires.decls.0 in
    let found = IsLeastFrom-as (covers (drop c.loop-latch.place c.as_slice-ranges.result.now)) (needs d c.args.call.now) c.loop-latch.from None inv.left
    c.in_default.ensures.least in
    IsReady-all store_content IsSound due_of c.args.session c.args.call.now c.args.seat.now c.loop-latch.from c.loop-latch.seat c.loop-latch.hands.items
    inv.taken (λ k low n. found.least k low (subst (λ (x : Decls). IsTrue (needs x c.args.call.now k)) decls n))
