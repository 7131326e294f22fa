use Rattle.std.proofs.Common.{ℕ, [], ◌∷◌, ◌++◌, ◌≡◌, ◌<◌, ◌≤◌, IsTrue, Option, ◌-◌, sym, ap, ◌∙◌, subst, set}
use Rattle.commit_core.specs.Machine.{commit_needs}
use Rattle.dt_model.specs.Tensors.{latch_count}
use Rattle.dt_model.specs.Verdicts.{call_is_valid}
use Rattle.atomic_table.specs.Seated.{TableId}
use Rattle.atomic_table.specs.Table.{Me}
use Rattle.fiber_latch.specs.declared.rule.SlotValue.{SlotValue}
use Rattle.fiber_latch.specs.declared.view.TableConfig.{TableConfig}
use Rattle.fiber_latch.specs.declared.view.View.{View}
use Rattle.fiber_latch.specs.Views.{In, IsLawful}
use Rattle.fiber_latch.specs.Conditions.{CanAddEntry, config_of}
use Rattle.fiber_latch.specs.Seats.{SeatState, TableState, last_number}
use Rattle.fiber_latch.specs.Sitting.{IsSeat, HasNumbers}
use Rattle.fiber_latch.proofs.LastNumbers.{can_add_entry, some_room, numbered_push, pushed_sits, lawful_after}
use Rattle.fiber_latch.proofs.latches.Latches.commit.Goals as goal

pub commit-requires-clause-ready : goal.commit-requires-clause-ready
commit-requires-clause-ready g c =
    let s = c.seat.inside in
    let v : View = s.token.me.0 in
    let e = c.args.entry in
    let r = c.requires in
    let is = sym c.seat.view_is in
    let z = c.self.invariant.0 in
    let key = config_of c.self.inside.table.shared.key in
    let same : v.config ≡ key = ap (λ (x : SeatState). x.config) c.seat.view_is ∙ r.table.1 ∙ sym (ap (λ (x : TableState). x.config) c.self.view_is) in
    let same' : c.args.self.now.config ≡ v.config = ap (λ (x : TableState). x.config) (sym c.self.view_is) ∙ sym same in
    subst (λ (x : TableConfig). CanAddEntry x v e) same
    (can_add_entry s.token.table_id s.first s.last s.token.me e c.seat.invariant.0
    (subst (λ (x : TableConfig). x.end ≡ latch_count x.world.decls) (sym same) z.latches)
    (subst (λ (x : TableConfig). x.sessions ≤ 16) (sym same) z.sessions)
    (subst (λ (x : TableConfig). x.calls ≤ 65536) (sym same) z.calls)
    (subst (λ (x : SeatState). x.first ≤ e.turn.session) is r.session.0)
    (subst (λ (x : SeatState). e.turn.session ≤ x.last) is r.session.1)
    (subst (λ (x : TableConfig). IsTrue (call_is_valid x.world.decls e.call)) same' r.call)
    (subst (λ (p : TableConfig × SeatState). (l : ℕ) → IsTrue (commit_needs p.0.world.decls e.call l)
    → In (l, e.turn.session) p.1.held) (λ i. (same' i, is i)) r.held)
    (subst (λ (x : SeatState). last_number e.turn.session x.seen < e.turn.number) is r.number.0)
    (subst (λ (x : TableConfig). e.turn.number ≤ x.calls) same' r.number.1))

pub push-requires : goal.push-requires
push-requires g c =
    let s = c.seat.inside in
    let r = c.requires in
    let room = some_room c.args.self.now.config c.args.seat.now.seen c.args.entry c.args.journal.now
    (lawful_after s.token.table_id s.first s.last s.token.me c.seat.invariant.0 c.args.seat.now c.seat.view_is c.args.self.now.config r.table.1 c.args.entry
    r.session.0 r.session.1 r.call r.number.0 r.number.1) r.journal in
    record { spare = room }

pub invariant_of-seat : goal.invariant_of-seat
invariant_of-seat g c =
    let s = c.seat.inside in
    let e = c.args.entry in
    let r = c.requires in
    let is = sym c.seat.view_is in
    let low = subst (λ (x : SeatState). x.first ≤ e.turn.session) is r.session.0 in
    let high = subst (λ (x : SeatState). e.turn.session ≤ x.last) is r.session.1 in
    let law = lawful_after s.token.table_id s.first s.last s.token.me c.seat.invariant.0 c.args.seat.now c.seat.view_is c.args.self.now.config r.table.1 e
    r.session.0 r.session.1 r.call r.number.0 r.number.1 in
    let law' = subst (λ (p : TableConfig × SeatState). IsLawful p.0 (p.1.seen ++ e ∷ [])) (λ i. (
      (sym r.table.1 ∙ ap (λ (x : SeatState). x.config) is) i,
      is i,
    )) law in
    subst (λ (p : TableId × Me (Option (SlotValue g.row.C.Denot)) View). IsSeat p.0 s.first s.last p.1
    × HasNumbers s.first s.last (set s.numbers (e.turn.session - 1) e.turn.number) p.1.0.seen)
    (λ i. (sym c.commit.ensures.same.table i, sym c.commit.ensures.me i)) (
      pushed_sits s.token.table_id s.first s.last s.token.me e c.seat.invariant.0 law',
      numbered_push s.first s.last s.numbers s.token.me.0.seen e c.seat.invariant.0.some_session c.seat.told low high c.seat.invariant.1,
    )
