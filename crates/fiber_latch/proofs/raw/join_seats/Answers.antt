use Rattle.std.proofs.Common.{ℕ, Option, ◌≡◌, ◌+◌, ◌<◌, arith, sym, ◌∙◌, subst}
use Rattle.fiber_latch.specs.declared.view.View.{View}
use Rattle.fiber_latch.specs.declared.view.Role.TheVariants.{Sessions}
use Rattle.fiber_latch.specs.Views.{IsSession}
use Rattle.fiber_latch.specs.Rule.{Good}
use Rattle.fiber_latch.specs.Steps.{joined_role}
use Rattle.fiber_latch.specs.Conditions.{config_of}
use Rattle.atomic_table.specs.Table.{Me}
use Rattle.fiber_latch.specs.declared.rule.SlotValue.{SlotValue}
use Rattle.fiber_latch.proofs.SessionKinds.{join_moves}
use Rattle.fiber_latch.proofs.ReleaseKind.{look_moves}
use Rattle.fiber_latch.proofs.KindsLemmas.{allows, joins}
use Rattle.fiber_latch.proofs.raw.join_seats.Goals as goal

pub join_seat-requires : goal.join_seat-requires
join_seat-requires g c =
    let key = c.args.top.now.key in
    let token = c.args.token.now in
    let t = c.requires.table in
    let r = c.requires.ready in (
      t.same,
      c.requires.other.0,
      c.requires.other.1,
      (let w = t.sized.words in omega arith),
      joins (Good g.C.Keep.content g.C.Keep.sound (config_of key)) (config_of key)
          (join_moves (Good g.C.Keep.content g.C.Keep.sound (config_of key)) (config_of key) token.id c.args.other.id c.args.first c.args.middle c.args.last
          token.me.0 c.args.other.me.0 r.0 r.1 r.2 r.3),
    )

pub load-requires : goal.load-requires
load-requires g c =
    let key = c.args.top.now.key in
    let t = c.requires.table in
    let r = c.requires.ready in
    let j = c.join_seat.ensures in
    let seat = c.join_seat.new.seat in
    let slots : ℕ = c.args.top.now.table_id.slots in
    let role : joined_role c.args.token.now.me.0.role c.args.other.me.0.role ≡ Sessions c.args.first c.args.last = λ i. joined_role (r.0.role i) (r.1.role i) in
    let session : IsSession seat.me.0.role = subst (λ (m : Me (Option (SlotValue g.row.C.Denot)) View). IsSession m.0.role) (sym j.2)
    (subst IsSession (sym role) tt) in
    let word : c.args.end + 1 < c.args.top.now.table_id.words = let a = t.sized.words in let b = c.requires.end in omega arith in (
      j.0 ∙ t.same,
      word,
      allows (Good g.C.Keep.content g.C.Keep.sound (config_of key)) (config_of key)
          (look_moves (Good g.C.Keep.content g.C.Keep.sound (config_of key)) (config_of key) slots seat.id (c.args.end + 1) seat.me.0 seat.me.1 session),
    )
