use Rattle.std.proofs.Common.{◌≡◌, ◌==◌, ◌^◌, ◌<◌, not, take, filter, All}
use Rattle.dt_model.proofs.packed_rows.nonzero_rows.Given as goal

abbrev pub invariant-loop-row : goal.invariant-loop-row
invariant-loop-row g l = (l.kept.items ≡ filter (λ row. not (row.value == 0)) (take l.row-index l.rows))
    × All (λ row. row.value < 2 ^ 64) l.kept.items
