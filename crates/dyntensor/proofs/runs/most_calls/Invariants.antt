use Rattle.std.proofs.Common.{◌≤◌, length, take}
use Rattle.std.specs.Prelude.{All}
use Rattle.dt_model.specs.declared.limits.TheConstants.{MOST_CALLS}
use Rattle.dyntensor.proofs.runs.most_calls.Given as goal

abbrev pub invariant-loop-script : goal.invariant-loop-script
invariant-loop-script l = record {
  room : All (λ script. length script ≤ l.most) (take l.script-index l.scripts);
  low : 1 ≤ l.most;
  high : l.most ≤ MOST_CALLS;
}
