use Rattle.std.proofs.Common.{◌≡◌, take}
use Rattle.dyntensor.specs.Workload.{lines_in}
use Rattle.dyntensor.proofs.gathering.lines_in.Given as goal

abbrev pub invariant-loop-lines : goal.invariant-loop-lines
invariant-loop-lines l = l.sum ≡ lines_in (take l.lines-index l.base)
