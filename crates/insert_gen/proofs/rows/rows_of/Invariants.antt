use Rattle.std.proofs.Common.{◌≡◌, map, take}
use Rattle.arrayvec.specs.ArrayVec.{array_vec_len}
use Rattle.insert_gen.specs.Rows.{row_of}
use Rattle.insert_gen.proofs.rows.rows_of.Given as goal

abbrev pub invariant-loop-kind : goal.invariant-loop-kind
invariant-loop-kind l = (l.rows.items ≡ map (row_of l.kinds) (take l.kind-index l.kinds)) × (array_vec_len l.rows ≡ l.kind-index)
