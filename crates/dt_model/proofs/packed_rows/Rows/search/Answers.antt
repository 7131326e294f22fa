use Rattle.std.proofs.Common.{take, rules}
use Rattle.std.specs.Cmp.Lexicographic.{slice_cmp}
use Rattle.std.specs.Ordering.{nat_cmp}
use Rattle.std.proofs.lemmas.Fn.{always_returns_same}
use Rattle.dt_model.specs.declared.packed_rows.Row.{Row}
use Rattle.dt_model.proofs.RowLemmas.{IsBinarySearchResult-rows}
use Rattle.dt_model.proofs.packed_rows.Rows.search.Goals as goal

pub returns-clause-position : goal.returns-clause-position
returns-clause-position g c =
    let by_rows = c.binary_search_by.ensures.position (λ (row : Row g.row.N). slice_cmp nat_cmp (take c.self.inside.order row.at) c.args.at.now)
    (always_returns_same _ _ _ (λ a r f called. search rules)) in
    let inside = c.deref.ensures.value in
    let bound = rw inside at c.binary_search_by.ensures.bound in
    let position = rw inside at by_rows in
    rw (← c.self.view_is) (IsBinarySearchResult-rows g.row.N c.self.inside.order c.args.at.now c.self.inside.rows.items c.binary_search_by.result bound
    position)
