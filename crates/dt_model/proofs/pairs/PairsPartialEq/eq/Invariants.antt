use Rattle.std.proofs.Common.{◌≡◌, drop}
use Rattle.std.specs.Cmp.Lexicographic.{pointwise}
use Rattle.dt_model.specs.Pairs.{same_pair}
use Rattle.dt_model.proofs.pairs.PairsPartialEq.eq.Given as goal

abbrev pub invariant-loop-index : goal.invariant-loop-index
invariant-loop-index l = pointwise same_pair (drop l.index l.self) (drop l.index l.other) ≡ pointwise same_pair l.self l.other
