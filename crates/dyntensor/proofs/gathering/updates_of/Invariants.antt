use Rattle.std.proofs.Common.{◌≡◌, take}
use Rattle.std.specs.Prelude.{sum_by}
use Rattle.dt_model.specs.Worlds.{updates_in}
use Rattle.dyntensor.proofs.gathering.updates_of.Given as goal

abbrev pub invariant-loop-verdict : goal.invariant-loop-verdict
invariant-loop-verdict l = l.sum ≡ sum_by updates_in (take l.verdict-index l.script)
