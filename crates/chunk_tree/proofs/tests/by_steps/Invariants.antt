use Rattle.std.proofs.Common.{◌≡◌, vec_len}
use Rattle.chunk_tree.proofs.tests.by_steps.Given as goal

abbrev pub invariant-loop-i : goal.invariant-loop-i
invariant-loop-i l = vec_len l.order ≡ l.i
