use Rattle.std.proofs.Common.{◌≡◌, ◌<◌, ◌≤◌, ◌++◌, map, take, drop, length}
use Rattle.std.specs.List.{All}
use Rattle.dt_model.specs.declared.packed_rows.Row.{Row}
use Rattle.dt_model.specs.Gathering.{gathered, gathered_onto}
use Rattle.dt_model.proofs.RowLemmas.{pair_of}
use Rattle.dt_model.proofs.packed_rows.gather_rows.Given as goal

abbrev pub invariant-loop-i : goal.invariant-loop-i
invariant-loop-i g l = (map (pair_of g.row.N l.order) (take l.kept l.rows) ++ gathered_onto (pair_of g.row.N l.order l.last)
    (map (pair_of g.row.N l.order) (drop l.i l.rows)) ≡ gathered (map (pair_of g.row.N l.order) l.fn.rows))
    × (l.kept < l.i) × All (λ (row : Row g.row.N). length row.at ≡ g.row.N) l.rows × (length l.last.at ≡ g.row.N) × (l.i ≤ length l.rows)
