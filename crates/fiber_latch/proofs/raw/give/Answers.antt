use Rattle.std.proofs.Common.{ℕ, Option, Some, None, ◌<◌, ◌∷◌, [], arith, sym, ap, ◌∙◌, subst}
use mathlib.Core.Option.{none}
use Rattle.atomic_table.specs.Table.{Allows, Me, step, rest}
use Rattle.fiber_latch.specs.declared.rule.SlotValue.{SlotValue}
use Rattle.fiber_latch.specs.declared.view.View.{View}
use Rattle.fiber_latch.specs.Rule.{Good, KeepsRule}
use Rattle.fiber_latch.specs.Steps.{ReturnsLatch, top_session}
use Rattle.fiber_latch.specs.Conditions.{config_of}
use Rattle.fiber_latch.proofs.ReleaseKind.{release_moves}
use Rattle.fiber_latch.proofs.WholeGives.{give_moves-after_release, give-view}
use Rattle.fiber_latch.proofs.KindsLemmas.{allows, splits}
use Rattle.fiber_latch.proofs.raw.give.Goals as goal

pub split_seat-pass-requires : goal.split_seat-pass-requires
split_seat-pass-requires g c =
    let key = c.args.top.now.key in
    let token = c.args.token.now in
    let t = c.requires.table in
    let r = c.requires.ready in (
      t.same,
      (let w = t.sized.words in omega arith),
      splits (Good g.C.Keep.content g.C.Keep.sound (config_of key)) (config_of key)
          (release_moves (Good g.C.Keep.content g.C.Keep.sound (config_of key)) (config_of key) token.id (top_session token.me.0) c.args.latch token.me.0
          r.session r.top r.known r.idle),
    )

pub put_value-requires-clause-hand : goal.put_value-requires-clause-hand
put_value-requires-clause-hand g c = let s = c.split_seat-pass.ensures in ap (λ m. m.1) s.2 ∙ c.requires.ready.hand
    ∙ ap (λ m. (c.args.latch, None) ∷ rest m.1) (sym s.2)

pub swap-requires : goal.swap-requires
swap-requires g c =
    let key = c.args.top.now.key in
    let token = c.args.token.now in
    let t = c.requires.table in
    let r = c.requires.ready in
    let s = c.split_seat-pass.ensures in
    let b = c.into_badge-pass.ensures in
    let l = c.put_value.ensures in
    let latch : c.args.latch < c.args.top.now.table_id.words = let w = t.sized.words in let x = c.requires.latch in omega arith in (
      l.same.table ∙ s.0 ∙ t.same,
      latch,
      subst (λ (n : ℕ). Allows (KeepsRule (config_of key) (Good g.C.Keep.content g.C.Keep.sound (config_of key))) c.args.top.now.table_id.slots
          c.put_value.new.token.id c.put_value.new.token.me c.args.latch (λ _. n) (ReturnsLatch (step c.args.top.now.table_id.slots c.args.latch n 0 none)
          c.put_value.new.token.me)) (omega arith)
          (allows (Good g.C.Keep.content g.C.Keep.sound (config_of key)) (config_of key)
          (give_moves-after_release g.C.Keep.content g.C.Keep.sound (config_of key) c.args.top.now.table_id.slots c.put_value.new.token.id c.args.latch
          token.me.0 token.me.1 c.put_value.new.token.me
          (record { kept = c.args.kept; pass = c.into_badge-pass.result })
          (l.me ∙ ap (λ (m : Me (Option (SlotValue g.row.C.Denot)) View). (
            m.0,
            (c.args.latch, Some (record { kept = c.args.kept; pass = c.into_badge-pass.result })) ∷ rest m.1,
          )) s.2)
          c.requires.knows.config r (b.2 ∙ ap (λ (m : Me (Option (SlotValue g.row.C.Denot)) View). m.0 ∷ []) s.4) (b.0 ∙ s.3 ∙ t.same
          ∙ sym c.requires.knows.name))),
    )

pub returns-clause-me : goal.returns-clause-me
returns-clause-me g c =
    let s = c.split_seat-pass.ensures in
    give-view c.args.latch c.args.token.now.me.0 c.args.token.now.me.1 c.put_value.new.token.me c.swap.new.seat.me
    (record { kept = c.args.kept; pass = c.into_badge-pass.result })
    (c.put_value.ensures.me ∙ ap (λ (m : Me (Option (SlotValue g.row.C.Denot)) View). (
      m.0,
      (c.args.latch, Some (record { kept = c.args.kept; pass = c.into_badge-pass.result })) ∷ rest m.1,
    )) s.2)
    c.swap.ensures.2
