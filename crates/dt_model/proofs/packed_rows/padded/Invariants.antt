use Rattle.std.proofs.Common.{◌≡◌, take, length}
use Rattle.dt_model.proofs.packed_rows.padded.Given as goal

abbrev pub invariant-loop-i : goal.invariant-loop-i
invariant-loop-i g l = (take l.i l.row ≡ take l.i l.numbers) × (length l.row ≡ g.row.N)
