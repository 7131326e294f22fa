use Rattle.std.proofs.Common.{ℕ, Option, ◌≡◌, ◌<◌, ◌∷◌, [], arith, sym, ap, ◌∙◌, subst}
use Rattle.fiber_latch.specs.declared.view.View.{View}
use Rattle.fiber_latch.specs.Views.{spent_view, IsSession}
use Rattle.fiber_latch.specs.Rule.{Good, KeepsRule}
use Rattle.fiber_latch.specs.Steps.{with_pass}
use Rattle.fiber_latch.specs.Conditions.{config_of, the_view}
use Rattle.atomic_table.specs.Table.{Joins, Me}
use Rattle.fiber_latch.specs.declared.rule.SlotValue.{SlotValue}
use Rattle.fiber_latch.proofs.AbsorbKind.{absorb_moves}
use Rattle.fiber_latch.proofs.ReleaseKind.{look_moves}
use Rattle.fiber_latch.proofs.KindsLemmas.{allows, joins}
use Rattle.fiber_latch.proofs.raw.absorb_pass.Goals as goal

same_view : (a b : View) → a ∷ [] ≡ b ∷ [] → a ≡ b
same_view a b e = ap the_view e

pub join_seat-requires : goal.join_seat-requires
join_seat-requires g c =
    let key = c.args.top.now.key in
    let token = c.args.token.now in
    let t = c.requires.table in
    let r = c.requires.ready in
    let i = c.into_seat-pass.ensures in
    let is = same_view (the_view c.args.pass.views) c.into_seat-pass.result.me.0 (sym c.requires.pass.1 ∙ i.2) in (
      t.same,
      i.0 ∙ c.requires.pass.0,
      i.3,
      (let w = t.sized.words in omega arith),
      subst (λ (u : View). Joins (KeepsRule (config_of key) (Good g.C.Keep.content g.C.Keep.sound (config_of key))) token.id token.me.0
          c.into_seat-pass.result.id u (with_pass token.me.0 u) spent_view) is
          (joins (Good g.C.Keep.content g.C.Keep.sound (config_of key)) (config_of key)
          (absorb_moves (Good g.C.Keep.content g.C.Keep.sound (config_of key)) (config_of key) token.id c.into_seat-pass.result.id c.args.session
          c.args.latch token.me.0 (the_view c.args.pass.views) r.session r.top r.pass)),
    )

pub load-requires : goal.load-requires
load-requires g c =
    let key = c.args.top.now.key in
    let t = c.requires.table in
    let j = c.join_seat.ensures in
    let seat = c.join_seat.new.seat in
    let slots : ℕ = c.args.top.now.table_id.slots in
    let session : IsSession seat.me.0.role = subst (λ (m : Me (Option (SlotValue g.row.C.Denot)) View). IsSession m.0.role) (sym j.2)
    c.requires.ready.session in
    let word : c.args.latch < c.args.top.now.table_id.words = let a = t.sized.words in let b = c.requires.latch in omega arith in (
      j.0 ∙ t.same,
      word,
      allows (Good g.C.Keep.content g.C.Keep.sound (config_of key)) (config_of key)
          (look_moves (Good g.C.Keep.content g.C.Keep.sound (config_of key)) (config_of key) slots seat.id c.args.latch seat.me.0 seat.me.1 session),
    )
