use Rattle.std.proofs.Common.{ℕ, ◌≤◌, eqb, arith, subst}
use mathlib.Core.Option.{none}
use prog.Atomic.{either}
use Rattle.atomic_table.specs.Table.{Allows, step}
use Rattle.fiber_latch.specs.Rule.{Good, GoodAt, KeepsRule}
use Rattle.fiber_latch.specs.Steps.{TriesLatch}
use Rattle.fiber_latch.specs.Conditions.{config_of}
use Rattle.fiber_latch.proofs.KindsLemmas.{allows}
use Rattle.fiber_latch.proofs.TakeKind.{take_moves}
use Rattle.fiber_latch.proofs.raw.take_step.Goals as goal

pub compare_exchange-requires : goal.compare_exchange-requires
compare_exchange-requires g c =
    let key = c.args.top.now.key in
    let token = c.args.token.now in
    let t = c.requires.table in
    let r = c.requires.ready in
    let inside : c.args.latch ≤ key.end = subst (λ z. c.args.latch ≤ z.end) c.requires.config r.inside in (
      t.same,
      (let w = t.sized.words in omega arith),
      subst (λ (n : ℕ). Allows (KeepsRule (config_of key) (Good g.C.Keep.content g.C.Keep.sound (config_of key))) c.args.top.now.table_id.slots token.id
          token.me c.args.latch (λ x. either (eqb x 0) n x) (TriesLatch (GoodAt g.C.Keep.content g.C.Keep.sound) (step c.args.top.now.table_id.slots
          c.args.latch 0 n none) token.me)) (omega arith)
          (allows (Good g.C.Keep.content g.C.Keep.sound (config_of key)) (config_of key)
          (take_moves (GoodAt g.C.Keep.content g.C.Keep.sound) (config_of key) c.args.top.now.table_id.slots token.id c.args.session c.args.latch token.me.0
          token.me.1 r.owns r.some_session inside r.above r.idle)),
    )
