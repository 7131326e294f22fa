use Rattle.std.proofs.Common.{◌≡◌, ◌∙◌, ◌==◌, ◌<◌, ◌^◌, not, map, length, ap, arith}
use Rattle.std.proofs.lemmas.List.Elements.{All-filter, All-map}
use Rattle.dt_model.specs.declared.packed_rows.Row.{Row}
use Rattle.dt_model.proofs.RowLemmas.{pair_of, pairs_of_nonzero_rows}
use Rattle.dt_model.proofs.packed_rows.Rows.nonzeros.Goals as goal

pub returns-clause-pairs : goal.returns-clause-pairs
returns-clause-pairs g c =
    let f = pair_of g.row.N c.self.inside.order in
    let kept = rw c.as_slice.ensures.value at c.in_ok-nonzero_rows.ensures.value in
    rw (← c.self.view_is) (ap (map f) kept ∙ pairs_of_nonzero_rows g.row.N c.self.inside.order c.self.inside.rows.items)

pub returns-clause-small : goal.returns-clause-small
returns-clause-small g c = All-map (λ p. p.1 < 2 ^ 64) (pair_of g.row.N c.self.inside.order) c.in_ok-nonzero_rows.field-0.items
    c.in_ok-nonzero_rows.ensures.small

pub invariant_of-result : goal.invariant_of-result
invariant_of-result g c =
    let whole = All-filter (λ (row : Row g.row.N). not (row.value == 0)) (λ (row : Row g.row.N). length row.at ≡ g.row.N) c.self.inside.rows.items
    c.self.invariant.2 in
    let kept = rw c.as_slice.ensures.value at c.in_ok-nonzero_rows.ensures.value in
    (c.self.invariant.0, c.self.invariant.1, rw kept whole, omega arith)
