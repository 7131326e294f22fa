use Rattle.std.proofs.Common.{ℕ, arith, subst}
use Rattle.atomic_table.specs.Table.{Splits}
use Rattle.fiber_latch.specs.Rule.{Good, KeepsRule}
use Rattle.fiber_latch.specs.Steps.{lower_view, upper_view}
use Rattle.fiber_latch.specs.Conditions.{config_of}
use Rattle.fiber_latch.proofs.SessionKinds.{split_moves}
use Rattle.fiber_latch.proofs.KindsLemmas.{splits}
use Rattle.fiber_latch.proofs.raw.split_picked.Goals as goal

pub split_seat-requires : goal.split_seat-requires
split_seat-requires g c =
    let key = c.args.top.now.key in
    let token = c.args.token.now in
    let t = c.requires.table in
    let r = c.requires.ready in
    let good = Good g.C.Keep.content g.C.Keep.sound (config_of key) in (
      t.same,
      (let w = t.sized.words in omega arith),
      subst (λ (a : ℕ). Splits (KeepsRule (config_of key) good) token.id token.me.0 (lower_view a token.me.0) (upper_view a token.me.0)) c.requires.picked
          (splits good (config_of key) (split_moves good (config_of key) token.id c.args.first c.args.last c.args.at token.me.0 r.0 r.1 r.2)),
    )
