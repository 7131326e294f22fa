use Rattle.std.proofs.Common.{ℕ, Option, [], ◌≡◌, ◌+◌, sym, ap, ◌∙◌, subst}
use Rattle.atomic_table.specs.Table.{Me}
use Rattle.fiber_latch.specs.declared.rule.SlotValue.{SlotValue}
use Rattle.fiber_latch.specs.declared.view.TableConfig.{TableConfig}
use Rattle.fiber_latch.specs.declared.view.View.{View}
use Rattle.fiber_latch.specs.Views.{name_of}
use Rattle.fiber_latch.specs.Conditions.{config_of}
use Rattle.fiber_latch.specs.Openings.{with_name, first_view, with_held, partly_opened, slots_below, opened_up_to}
use Rattle.fiber_latch.proofs.OpeningsLemmas.{opening_at, none_out, all_out}
use Rattle.fiber_latch.proofs.opening.opened.Goals as goal

pub take_out-requires-clause-ready : goal.take_out-requires-clause-ready
take_out-requires-clause-ready g c =
    let t = c.in_ok-table.table.shared in
    let x = config_of t.key in
    let z = name_of t.table_id in
    let e : t.key.end ≡ c.args.end = ap (λ (y : TableConfig). y.end) c.in_ok-table.ensures.ok.1 ∙ sym c.requires.latches in
    let m = c.learn.new.token.me in (
      opening_at x z (opened_up_to t.key.end) [] m c.learn.ensures.me,
      subst (λ (n : ℕ). m ≡ (with_held m.0 (partly_opened 0 n), [])) e (none_out x z m c.learn.ensures.me),
    )

pub give_back-room-requires-clause-ready : goal.give_back-room-requires-clause-ready
give_back-room-requires-clause-ready g c =
    let t = c.in_ok-table.table.shared in
    let x = config_of t.key in
    let z = name_of t.table_id in
    let n : ℕ = c.args.end in
    let out : c.take_out.new.token.me ≡ (with_held (with_name z (first_view x)) (partly_opened (n + 1) n), slots_below (n + 1)) =
    c.take_out.ensures.me ∙ ap (λ (m : Me (Option (SlotValue g.row.C.Denot)) View). (
      with_held m.0 (partly_opened (n + 1) n),
      slots_below (n + 1),
    )) c.learn.ensures.me in (
      opening_at x z (partly_opened (n + 1) n) (slots_below (n + 1)) c.take_out.new.token.me out,
      all_out c.learn.new.token.me.0 n c.take_out.new.token.me c.take_out.ensures.me,
    )
