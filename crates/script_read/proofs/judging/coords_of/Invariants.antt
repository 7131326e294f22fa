use Rattle.std.proofs.Common.{◌≡◌, map, take}
use Rattle.dt_model.specs.Verdicts.{from_zero}
use Rattle.script_read.proofs.judging.coords_of.Given as goal

abbrev pub invariant-loop-coordinate : goal.invariant-loop-coordinate
invariant-loop-coordinate l = l.at ≡ map from_zero (take l.coordinate-index l.coordinates)
