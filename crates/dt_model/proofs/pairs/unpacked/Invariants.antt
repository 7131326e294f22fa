use Rattle.std.proofs.Common.{◌≡◌, take}
use Rattle.dt_model.proofs.pairs.unpacked.Given as goal

abbrev pub invariant-loop-index : goal.invariant-loop-index
invariant-loop-index l = l.list.items ≡ take l.index l.pairs.pairs
