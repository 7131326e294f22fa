use Rattle.std.proofs.Common.{ℕ, [], ◌≡◌, ◌+◌, ◌<◌, ◌≤◌, Option, arith, ap, ◌∙◌, sym, subst, get_or}
use Rattle.atomic_table.specs.Seated.{TableId}
use Rattle.atomic_table.specs.Table.{Me}
use Rattle.fiber_latch.specs.declared.rule.SlotValue.{SlotValue}
use Rattle.fiber_latch.specs.declared.view.Role.TheVariants.{Sessions}
use Rattle.fiber_latch.specs.declared.view.TableConfig.{TableConfig}
use Rattle.fiber_latch.specs.declared.view.View.{View}
use Rattle.fiber_latch.specs.Steps.{without_join, joined_view}
use Rattle.fiber_latch.specs.Conditions.{IsIdle}
use Rattle.fiber_latch.specs.Seats.{SeatState, TableState, HasJoined}
use Rattle.fiber_latch.specs.Sitting.{state_of, IsSeat, HasNumbers}
use Rattle.fiber_latch.proofs.SittingLemmas.{is_idle, no_hand, has_joined, joined_sits}
use Rattle.fiber_latch.proofs.LastNumbers.{numbered_both}
use Rattle.fiber_latch.proofs.latches.Latches.join.Goals as goal

pub join_seats-requires-clause-table : goal.join_seats-requires-clause-table
join_seats-requires-clause-table g c =
    let z : c.args.self.now.table ≡ c.self.inside.table.shared.table_id = sym (ap (λ (x : TableState). x.table) c.self.view_is) in
    record { same = ap (λ (x : SeatState). x.table) c.seat.view_is ∙ c.requires.tables.0.0 ∙ z; sized = c.self.invariant.0 }

pub join_seats-requires-clause-other : goal.join_seats-requires-clause-other
join_seats-requires-clause-other g c =
    let o = c.other.inside in
    let z : c.args.self.now.table ≡ c.self.inside.table.shared.table_id = sym (ap (λ (x : TableState). x.table) c.self.view_is) in (
      ap (λ (x : SeatState). x.table) c.other.view_is ∙ c.requires.tables.1.0 ∙ z,
      no_hand o.token.table_id o.first o.last o.token.me c.other.invariant.0 (subst (λ (x : SeatState). x.held ≡ []) (sym c.other.view_is) c.requires.idle.1),
    )

pub join_seats-requires-clause-ready : goal.join_seats-requires-clause-ready
join_seats-requires-clause-ready g c =
    let s = c.seat.inside in
    let o = c.other.inside in
    let r = c.requires in
    let next : o.first ≡ s.last + 1 = ap (λ (x : SeatState). x.first) c.other.view_is ∙ r.follows ∙ ap (λ (x : SeatState). x.last + 1) (sym c.seat.view_is) in
    let theirs : o.first ≤ o.last = c.other.invariant.1.order in (
      is_idle s.token.table_id s.first s.last s.token.me c.seat.invariant.0 (subst (λ (x : SeatState). x.held ≡ []) (sym c.seat.view_is) r.idle.0),
      subst (λ (n : ℕ). IsIdle o.token.me.0 n o.last) next
          (is_idle o.token.table_id o.first o.last o.token.me c.other.invariant.0 (subst (λ (x : SeatState). x.held ≡ []) (sym c.other.view_is) r.idle.1)),
      c.seat.invariant.1.order,
      omega arith,
    )

pub invariant_of-seat : goal.invariant_of-seat
invariant_of-seat g c =
    let s = c.seat.inside in
    let o = c.other.inside in
    let r = c.requires in
    let j = c.join_seats.ensures in
    let b = c.both_numbers-seat-inside.ensures in
    let next : o.first ≡ s.last + 1 = ap (λ (x : SeatState). x.first) c.other.view_is ∙ r.follows ∙ ap (λ (x : SeatState). x.last + 1) (sym c.seat.view_is) in
    let same : o.token.me.0.config ≡ s.token.me.0.config = ap (λ (x : SeatState). x.config) c.other.view_is ∙ r.tables.1.1
    ∙ sym (ap (λ (x : SeatState). x.config) c.seat.view_is ∙ r.tables.0.1) in
    let role : o.token.me.0.role ≡ Sessions (s.last + 1) o.last = c.other.invariant.0.role ∙ (λ i. Sessions (next i) o.last) in
    let joins = has_joined s.token.table_id s.first s.last o.last s.token.me.0 o.token.me.0 c.seat.invariant.0.role role j.told.0 in
    let numbers = c.both_numbers-seat-inside.result in
    subst (λ (p : TableId × Me (Option (SlotValue g.row.C.Denot)) View). IsSeat p.0 s.first o.last p.1 × HasNumbers s.first o.last numbers p.1.0.seen)
    (λ i. (sym j.same i, sym j.me i)) (
      joined_sits s.token.table_id s.first s.last o.last s.token.me o.token.me c.seat.invariant.0 role
          (subst (λ (x : TableConfig). o.last ≤ x.sessions) same c.other.invariant.0.within) j.told.1,
      numbered_both s.first s.last o.last s.numbers o.numbers numbers s.token.me.0.seen o.token.me.0.seen (joined_view s.token.me.0 o.token.me.0).seen
          c.seat.invariant.0.some_session joins.mine joins.theirs c.seat.invariant.1
          (subst (λ (n : ℕ). HasNumbers n o.last o.numbers o.token.me.0.seen) next c.other.invariant.1) (subst (λ (n : ℕ). (k : ℕ) → n ≤ k + 1 → k
          + 1 ≤ o.last → get_or numbers k 0 ≡ get_or o.numbers k 0) next b.theirs)
          (subst (λ (n : ℕ). (k : ℕ) → k + 1 < n → get_or numbers k 0 ≡ get_or s.numbers k 0) next b.mine),
    )

pub returns : goal.returns
returns g c =
    let s = c.seat.inside in
    let o = c.other.inside in
    let r = c.requires in
    let w = c.join_seats.new.token in
    let j = c.join_seats.ensures in
    let next : o.first ≡ s.last + 1 = ap (λ (x : SeatState). x.first) c.other.view_is ∙ r.follows ∙ ap (λ (x : SeatState). x.last + 1) (sym c.seat.view_is) in
    let tables : o.token.table_id ≡ s.token.table_id = ap (λ (x : SeatState). x.table) c.other.view_is ∙ r.tables.1.0
    ∙ sym (ap (λ (x : SeatState). x.table) c.seat.view_is ∙ r.tables.0.0) in
    let mine : state_of s.token.table_id s.first s.last s.token.me.0 ≡ c.args.seat.now = c.seat.view_is in
    let yours : state_of s.token.table_id (s.last + 1) o.last o.token.me.0 ≡ c.args.other = (λ i. state_of (sym tables i) (sym next i) o.last o.token.me.0)
    ∙ c.other.view_is in
    let ours : state_of s.token.table_id s.first o.last (without_join (joined_view s.token.me.0 o.token.me.0))
    ≡ state_of w.table_id s.first o.last w.me.0 = λ i. state_of (sym j.same i) s.first o.last (sym j.me i).0 in
    record {
      seat = subst (λ (p : SeatState × SeatState × SeatState). HasJoined p.0 p.1 p.2) (λ i. (mine i, yours i, ours i))
          (has_joined s.token.table_id s.first s.last o.last s.token.me.0 o.token.me.0 c.seat.invariant.0.role (c.other.invariant.0.role
          ∙ (λ i. Sessions (next i) o.last)) j.told.0);
    }
