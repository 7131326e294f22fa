use Rattle.std.proofs.Common.{ℕ, List, [], ◌≡◌, ap, ◌∙◌, sym, subst}
use Rattle.std.specs.Mem.Slots.{slots_items}
use Rattle.dt_model.specs.declared.calls.Entry.{Entry}
use Rattle.fiber_latch.specs.declared.rule.Kept.TheVariants.{Journal}
use Rattle.fiber_latch.specs.declared.view.Role.TheVariants.{Sessions}
use Rattle.fiber_latch.specs.declared.view.TableConfig.{TableConfig}
use Rattle.fiber_latch.specs.Conditions.{config_of}
use Rattle.fiber_latch.specs.Leaving.{HasValue, HasAll, AreFromSlots}
use Rattle.fiber_latch.specs.Seats.{SeatState, TableState, AreStores}
use Rattle.fiber_latch.proofs.SittingLemmas.{is_idle}
use Rattle.fiber_latch.proofs.LeavingLemmas.{all_held, stores_left, journal_left}
use Rattle.fiber_latch.proofs.latches.Latches.close.Goals as goal

pub emptied-requires-clause-values : goal.emptied-requires-clause-values
emptied-requires-clause-values g c =
    let s = c.seat.inside in
    let r = c.requires in
    let config = config_of c.self.inside.table.shared.key in
    let f = c.close_with.ensures.values.2 in
    let first : s.first ≡ 1 = ap (λ (x : SeatState). x.first) c.seat.view_is ∙ r.sessions.0 in
    let last : s.last ≡ config.sessions = ap (λ (x : SeatState). x.last) c.seat.view_is ∙ r.sessions.1
    ∙ ap (λ (x : TableState). x.config.sessions) (sym c.self.view_is) in
    let role : s.token.me.0.role ≡ Sessions 1 config.sessions = c.seat.invariant.0.role ∙ (λ i. Sessions (first i) (last i)) in
    let empty = (is_idle s.token.table_id s.first s.last s.token.me c.seat.invariant.0 (subst (λ (x : SeatState). x.held
    ≡ []) (sym c.seat.view_is) r.idle)).held in
    subst (λ (n : ℕ). HasAll n (slots_items c.close_with.result.slots)) c.self.invariant.1
    (all_held g.C.Keep.content g.C.Keep.sound config f.0 f.1.0 s.token.id s.token.me.0 f.1.1 role empty (slots_items c.close_with.result.slots) f.4)

pub returns-clause-journal : goal.returns-clause-journal
returns-clause-journal g c =
    let s = c.seat.inside in
    let r = c.requires in
    let config = config_of c.self.inside.table.shared.key in
    let f = c.close_with.ensures.values.2 in
    let first : s.first ≡ 1 = ap (λ (x : SeatState). x.first) c.seat.view_is ∙ r.sessions.0 in
    let last : s.last ≡ config.sessions = ap (λ (x : SeatState). x.last) c.seat.view_is ∙ r.sessions.1
    ∙ ap (λ (x : TableState). x.config.sessions) (sym c.self.view_is) in
    let role : s.token.me.0.role ≡ Sessions 1 config.sessions = c.seat.invariant.0.role ∙ (λ i. Sessions (first i) (last i)) in
    let empty = (is_idle s.token.table_id s.first s.last s.token.me c.seat.invariant.0 (subst (λ (x : SeatState). x.held
    ≡ []) (sym c.seat.view_is) r.idle)).held in
    journal_left g.C.Keep.content g.C.Keep.sound config f.0 f.1.0 s.token.id s.token.me.0 f.1.1 role empty (slots_items c.close_with.result.slots) f.4
    c.emptied.result.journal
    (subst (λ (n : ℕ). HasValue (slots_items c.close_with.result.slots) n (Journal c.emptied.result.journal)) (sym c.self.invariant.1)
    c.emptied.ensures.journal)
    ∙ ap (λ (x : SeatState). x.seen) c.seat.view_is

pub returns-clause-stores : goal.returns-clause-stores
returns-clause-stores g c =
    let s = c.seat.inside in
    let r = c.requires in
    let config = config_of c.self.inside.table.shared.key in
    let f = c.close_with.ensures.values.2 in
    let first : s.first ≡ 1 = ap (λ (x : SeatState). x.first) c.seat.view_is ∙ r.sessions.0 in
    let last : s.last ≡ config.sessions = ap (λ (x : SeatState). x.last) c.seat.view_is ∙ r.sessions.1
    ∙ ap (λ (x : TableState). x.config.sessions) (sym c.self.view_is) in
    let role : s.token.me.0.role ≡ Sessions 1 config.sessions = c.seat.invariant.0.role ∙ (λ i. Sessions (first i) (last i)) in
    let empty = (is_idle s.token.table_id s.first s.last s.token.me c.seat.invariant.0 (subst (λ (x : SeatState). x.held
    ≡ []) (sym c.seat.view_is) r.idle)).held in
    subst (λ (p : TableConfig × List Entry). AreStores g.C.Keep.content g.C.Keep.sound p.0 p.1 c.emptied.result.stores.items) (λ i. (
      (c.self.view_is i).config,
      (c.seat.view_is i).seen,
    ))
    (stores_left g.C.Keep.content g.C.Keep.sound config f.0 f.1.0 s.token.id s.token.me.0 f.1.1 role empty (slots_items c.close_with.result.slots) f.4
    c.emptied.result.stores.items
    (subst (λ (n : ℕ). AreFromSlots n (slots_items c.close_with.result.slots) c.emptied.result.stores.items) (sym c.self.invariant.1) c.emptied.ensures.stores))
