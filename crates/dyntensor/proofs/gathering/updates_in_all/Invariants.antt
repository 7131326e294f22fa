use Rattle.std.proofs.Common.{◌≡◌, take}
use Rattle.dyntensor.specs.Workload.{updates_of}
use Rattle.dyntensor.proofs.gathering.updates_in_all.Given as goal

abbrev pub invariant-loop-script : goal.invariant-loop-script
invariant-loop-script l = l.sum ≡ updates_of (take l.script-index l.scripts)
