use Rattle.std.proofs.Common.{ℕ, Option, ◌≤◌, arith, sym, ◌∙◌, subst}
use mathlib.Core.Option.{none}
use Rattle.atomic_table.specs.Table.{Allows, Me, step}
use Rattle.fiber_latch.specs.declared.rule.SlotValue.{SlotValue}
use Rattle.fiber_latch.specs.declared.view.View.{View}
use Rattle.fiber_latch.specs.Rule.{Good, KeepsRule}
use Rattle.fiber_latch.specs.Steps.{OpensSlot}
use Rattle.fiber_latch.specs.Conditions.{config_of}
use Rattle.fiber_latch.specs.Openings.{with_held, partly_opened, slots_below}
use Rattle.fiber_latch.proofs.OpeningKinds.{open_moves}
use Rattle.fiber_latch.proofs.KindsLemmas.{allows}
use Rattle.fiber_latch.proofs.OpeningsLemmas.{Contains-partly_opened, take_out-step}
use Rattle.fiber_latch.proofs.opening.take_out.Goals as goal

pub load-requires : goal.load-requires
load-requires g c =
    let key = c.args.top.now.key in
    let token = c.loop-latch.token in
    let l : ℕ = c.loop-latch.latch in
    let v0 : View = c.args.token.now.me.0 in
    let inv = c.loop-latch.invariant in
    let t = c.requires.table in
    let o = c.requires.ready.0 in
    let slots : ℕ = c.args.top.now.table_id.slots in
    let good = Good g.C.Keep.content g.C.Keep.sound (config_of key) in
    let inside : l ≤ c.args.end = omega arith in (
      inv.table ∙ t.same,
      (let w = t.sized.words in let e = c.requires.end.0 in omega arith),
      subst (λ (m : Me (Option (SlotValue g.row.C.Denot)) View). Allows (KeepsRule (config_of key) good) slots token.id m l (λ n. n)
          (OpensSlot (step slots l 0 0 none) m)) (sym inv.me)
          (allows good (config_of key) (open_moves good (config_of key) slots token.id 1 l (with_held v0 (partly_opened l c.args.end)) (slots_below l)
          o.session (Contains-partly_opened l c.args.end inside) o.idle)),
    )

pub loop-latch-preserved : goal.loop-latch-preserved
loop-latch-preserved g c =
    let inv = c.loop-latch.invariant in
    record {
      table = c.load.ensures.0 ∙ inv.table;
      me = take_out-step c.args.token.now.me.0 c.loop-latch.latch c.args.end c.loop-latch.token.me
          c.load.new.seat.me inv.me c.load.ensures.2;
    }
