use Rattle.std.proofs.Common.{true, refl, arith}
use Rattle.chunk_tree.proofs.RowTrialLemmas.{rows-kinds}
use Rattle.chunk_tree.proofs.mixed_tests.chain.Goals as goal

pub returns : goal.returns
returns c = record { kinds = rows-kinds true _ _ refl refl refl refl (omega arith) (omega arith) (omega arith) (omega arith) }
