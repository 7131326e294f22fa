use Rattle.std.proofs.Common.{false, refl, arith}
use Rattle.chunk_tree.proofs.RowTrialLemmas.{rows-kinds}
use Rattle.chunk_tree.proofs.mixed_tests.pairs.Goals as goal

pub returns : goal.returns
returns c = record { kinds = rows-kinds false _ _ refl refl refl refl (omega arith) (omega arith) (omega arith) (omega arith) }
