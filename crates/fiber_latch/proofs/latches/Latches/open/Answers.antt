use Rattle.std.proofs.Common.{ℕ, Option, ◌∙◌, ◌-◌, sym, ap, subst, arith, replicate}
use Rattle.atomic_table.specs.Seated.{TableId}
use Rattle.atomic_table.specs.Table.{Me}
use Rattle.fiber_latch.specs.declared.rule.SlotValue.{SlotValue}
use Rattle.fiber_latch.specs.declared.view.TableConfig.{TableConfig}
use Rattle.fiber_latch.specs.declared.view.View.{View}
use Rattle.fiber_latch.specs.Conditions.{config_of}
use Rattle.fiber_latch.specs.Seats.{last_number}
use Rattle.fiber_latch.specs.Sitting.{IsSeat, HasNumbers}
use Rattle.fiber_latch.proofs.SittingLemmas.{first_sits}
use Rattle.fiber_latch.proofs.LastNumbers.{zeros_at}
use Rattle.fiber_latch.proofs.latches.Latches.open.Goals as goal

pub invariant_of-seat : goal.invariant_of-seat
invariant_of-seat g c =
    let e = c.in_ok-table.ensures in
    let t = c.in_ok-table.table.shared in
    let me = c.in_ok-table.token.me in
    let sessions = ap (λ (x : TableConfig). x.sessions) e.sized.1 in
    let counts = c.requires.counts in
    subst (λ (n : ℕ). IsSeat c.in_ok-table.token.table_id 1 n me × HasNumbers 1 n (replicate 16 0) me.0.seen) (omega arith) (
      subst (λ (p : TableId × ℕ). IsSeat p.0 1 p.1 me) (λ i. (sym e.seat.0 i, sessions i)) (first_sits (config_of t.key) t.table_id me e.seat.1),
      record {
        order = counts.0;
        few = counts.1;
        each = λ s a b. zeros_at 16 (s - 1) ∙ sym (ap (λ (m : Me (Option (SlotValue g.row.C.Denot)) View). last_number s m.0.seen) e.seat.1);
      },
    )
