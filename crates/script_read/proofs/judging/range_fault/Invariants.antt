use Rattle.std.proofs.Common.{◌≡◌, ◌+◌, drop}
use Rattle.dt_model.specs.Refusals.{range_fault}
use Rattle.script_read.proofs.judging.range_fault.Given as goal

abbrev pub invariant-loop-i : goal.invariant-loop-i
invariant-loop-i l = range_fault l.name (1 + l.i) (drop l.i l.dims) (drop l.i l.coordinates) ≡ range_fault l.name 1 l.dims l.coordinates
