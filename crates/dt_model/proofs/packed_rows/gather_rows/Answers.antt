use Rattle.std.proofs.Common.{◌≡◌, ◌<◌, ◌≤◌, ◌+◌, ◌++◌, length, map, take, drop, ap, sym, ◌∙◌, arith}
use Rattle.dt_model.specs.declared.packed_rows.Row.{Row}
use Rattle.dt_model.specs.Gathering.{gathered_onto}
use Rattle.dt_model.proofs.RowLemmas.{pair_of, gathered_onto-same, gathered_onto-other, append-with_nonzero}
use Rattle.dt_model.proofs.packed_rows.gather_rows.Goals as goal
use Rattle.dt_model.proofs.packed_rows.gather_rows.Goals.{then-eq, else-eq}

pub loop-i-preserved : goal.loop-i-preserved
loop-i-preserved g c =
    let l = c.loop-i in
    let row = c.index-rows-i.result in
    let is = c.index-rows-i.is in
    let inside : l.i < length l.rows = omega arith in
    let whole : length row.at ≡ g.row.N = ap (λ (x : Row g.row.N). length x.at) is ∙ l.invariant.2 l.i row inside in
    let later : l.kept < l.i + 1 = omega (arith, l.invariant.1) in
    let next : l.i + 1 ≤ length l.rows = omega arith in
    let front = map (pair_of g.row.N c.args.order) (take l.kept l.rows) in
    elim c.if-eq.branch [
      | then-eq w ↦ (let e = w.if-eq.ensures in
          let told = ap (λ t. front ++ t) (sym (gathered_onto-same g.row.N c.args.order l.last row l.rows l.i inside is (sym e))) ∙ l.invariant.0 in
          rw (w.rows-is, w.kept-is, w.last-is) (told, later, l.invariant.2, l.invariant.3, next))
      | else-eq w ↦ (let e = w.if-eq.ensures in
          let f = pair_of g.row.N c.args.order in
          let put = w.put_nonzero-kept.ensures in
          let later = gathered_onto (f row) (map f (drop (l.i + 1) l.rows)) in
          let told = append-with_nonzero front (f l.last) later
          ∙ ap (λ t. front ++ t) (sym (gathered_onto-other g.row.N c.args.order l.last row l.rows l.i inside is (sym e))) ∙ l.invariant.0 in
          let further : w.put_nonzero-kept.result < l.i + 1 = omega (arith, l.invariant.1, put.few) in
          rw (w.rows-is, w.kept-is, w.last-is) (rw (put.front, put.behind (l.i + 1) (omega (arith, l.invariant.1))) told, further, put.all, whole, omega arith))
    ]
