use Rattle.std.proofs.Common.{◌≡◌, take}
use Rattle.dt_model.proofs.pairs.Pairs.packed_anew.Given as goal

abbrev pub invariant-loop-index : goal.invariant-loop-index
invariant-loop-index l = record { pairs : l.packed.pairs ≡ take l.index l.self; order : l.packed.order ≡ l.order }
