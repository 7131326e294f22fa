use Rattle.std.proofs.Common.{◌≡◌, vec_len}
use Rattle.chunk_tree.proofs.tests.row_of_96.Given as goal

abbrev pub invariant-loop-at : goal.invariant-loop-at
invariant-loop-at l = vec_len l.order ≡ l.at
