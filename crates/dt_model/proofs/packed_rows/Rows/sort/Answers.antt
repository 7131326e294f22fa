use Rattle.std.proofs.Common.{◌≡◌, length, arith}
use Rattle.std.proofs.lemmas.List.Sorted.{IsPermutation-map, All-permutation}
use Rattle.dt_model.specs.declared.packed_rows.Row.{Row}
use Rattle.dt_model.proofs.RowLemmas.{pair_of, IsNonDescending-rows}
use Rattle.dt_model.proofs.packed_rows.Rows.sort.Goals as goal

pub returns-clause-same : goal.returns-clause-same
returns-clause-same g c =
    let f = pair_of g.row.N c.self.inside.order in
    rw (← c.self.view_is) (IsPermutation-map f c.self.inside.rows.items c.sort_unstable.new.self.items c.sort_unstable.ensures.permutation)

pub returns-clause-sorted : goal.returns-clause-sorted
returns-clause-sorted g c = IsNonDescending-rows g.row.N c.self.inside.order c.sort_unstable.new.self.items c.sort_unstable.ensures.sorted

pub invariant_of-self : goal.invariant_of-self
invariant_of-self g c =
    let whole = All-permutation (λ (row : Row g.row.N). length row.at ≡ g.row.N) c.self.inside.rows.items c.sort_unstable.new.self.items
    c.sort_unstable.ensures.permutation c.self.invariant.2 in
    (c.self.invariant.0, c.self.invariant.1, whole, omega arith)
