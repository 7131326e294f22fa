use Rattle.std.proofs.Common.{ℕ, [], ◌∷◌, ◌++◌, ◌≡◌, ◌≢◌, ◌≤◌, sym, subst}
use Rattle.atomic_table.specs.Seated.{TableId}
use Rattle.fiber_latch.specs.declared.view.TableConfig.{TableConfig}
use Rattle.fiber_latch.specs.Views.{IsAboveAll, Owns}
use Rattle.fiber_latch.specs.Rule.{GoodAt}
use Rattle.fiber_latch.specs.Seats.{SeatState, IsTaken}
use Rattle.fiber_latch.specs.Sitting.{state_of, IsSeat, HasNumbers}
use Rattle.fiber_latch.proofs.SittingLemmas.{may_take, taken, ok_map}
use Rattle.fiber_latch.proofs.LastNumbers.{tried_sits}
use Rattle.fiber_latch.proofs.latches.Latches.try_take.Goals as goal

pub try_take-requires-clause-ready : goal.try_take-requires-clause-ready
try_take-requires-clause-ready g c =
    let s = c.seat.inside in
    let r = c.requires in
    let is = sym c.seat.view_is in
    may_take s.token.table_id s.first s.last s.token.me c.seat.invariant.0 c.args.session c.args.latch
    (subst (λ (x : SeatState). x.first ≤ c.args.session) is r.session.0) (subst (λ (x : SeatState). c.args.session ≤ x.last) is r.session.1)
    (subst (λ (x : SeatState). c.args.latch ≤ x.config.end) is (subst (λ (x : TableConfig). c.args.latch ≤ x.end) (sym r.table.1) r.latch.0))
    (subst (λ (x : SeatState). IsAboveAll (λ (h : ℕ × ℕ). h.0) c.args.latch x.held) is r.latch.1)

pub invariant_of-seat : goal.invariant_of-seat
invariant_of-seat g c =
    let s = c.seat.inside in
    let w = c.try_take.new.token in
    subst (λ (z : TableId). IsSeat z s.first s.last w.me × HasNumbers s.first s.last s.numbers w.me.0.seen) (sym c.try_take.ensures.same.table)
    (tried_sits (GoodAt g.C.Keep.content g.C.Keep.sound) s.token.table_id s.first s.last c.args.latch c.args.session s.numbers s.token.me w.me
    (λ b. s.token.me.0.conflicts ++ (c.args.latch, b.holder) ∷ [])
    (λ b. b.latch ≡ c.args.latch) (λ b. b.holder ≢ 0) (λ b. ¬ Owns s.token.me.0.role b.holder) c.try_take.result c.seat.invariant.0 c.seat.invariant.1
    c.try_take.ensures.busy c.try_take.ensures.ok)

pub returns-clause-ok : goal.returns-clause-ok
returns-clause-ok g c =
    let s = c.seat.inside in
    let w = c.try_take.new.token in
    let good = GoodAt g.C.Keep.content g.C.Keep.sound in
    let above = subst (λ (x : SeatState). IsAboveAll (λ (h : ℕ × ℕ). h.0) c.args.latch x.held) (sym c.seat.view_is) c.requires.latch.1 in
    ok_map _ (λ y t. subst (λ (x : SeatState). IsTaken good c.args.latch c.args.session x y (state_of w.table_id s.first s.last w.me.0)) c.seat.view_is
    (subst (λ (z : TableId). IsTaken good c.args.latch c.args.session (state_of s.token.table_id s.first s.last s.token.me.0) y
    (state_of z s.first s.last w.me.0)) (sym c.try_take.ensures.same.table)
    (taken s.token.table_id s.first s.last s.token.me c.seat.invariant.0 good c.args.latch c.args.session y w.me above t))) c.try_take.ensures.ok
