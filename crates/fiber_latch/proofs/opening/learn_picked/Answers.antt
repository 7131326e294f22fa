use Rattle.std.proofs.Common.{ℕ, Option, [], refl, arith, sym, subst}
use mathlib.Core.Option.{none}
use Rattle.atomic_table.specs.Table.{Allows, Me, step}
use Rattle.fiber_latch.specs.declared.rule.SlotValue.{SlotValue}
use Rattle.fiber_latch.specs.declared.view.View.{View}
use Rattle.fiber_latch.specs.Rule.{Good, KeepsRule}
use Rattle.fiber_latch.specs.Steps.{LearnsTable}
use Rattle.fiber_latch.specs.Conditions.{config_of}
use Rattle.fiber_latch.specs.Openings.{first_view}
use Rattle.fiber_latch.proofs.OpeningKinds.{learn_moves}
use Rattle.fiber_latch.proofs.KindsLemmas.{allows}
use Rattle.fiber_latch.proofs.opening.learn_picked.Goals as goal

pub load-requires : goal.load-requires
load-requires g c =
    let key = c.args.top.now.key in
    let token = c.args.token.now in
    let t = c.requires.table in
    let slots : ℕ = c.args.top.now.table_id.slots in
    let good = Good g.C.Keep.content g.C.Keep.sound (config_of key) in (
      t.same,
      (let w = t.sized.words in omega arith),
      subst (λ (m : Me (Option (SlotValue g.row.C.Denot)) View). Allows (KeepsRule (config_of key) good) slots token.id m 0 (λ n. n)
          (LearnsTable g.Q.PickedName.name (step slots 0 0 0 none) m)) (sym c.requires.ready)
          (allows good (config_of key) (learn_moves good (config_of key) slots token.id (first_view (config_of key)) g.Q.PickedName.name [] tt refl refl)),
    )
