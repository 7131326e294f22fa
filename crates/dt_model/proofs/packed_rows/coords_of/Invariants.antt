use Rattle.std.proofs.Common.{◌≡◌, take}
use Rattle.dt_model.proofs.packed_rows.coords_of.Given as goal

abbrev pub invariant-loop-number : goal.invariant-loop-number
invariant-loop-number l = l.coords ≡ take l.number-index l.numbers
