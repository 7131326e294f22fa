use Rattle.std.proofs.Common.{◌≡◌, map, take, drop}
use Rattle.dt_model.specs.Refusals.{first_of_all, update_fault}
use Rattle.dt_model.specs.Verdicts.{update_of}
use Rattle.script_read.proofs.judging.judge_batch.Given as goal

abbrev pub invariant-loop-update : goal.invariant-loop-update
invariant-loop-update l = record {
  fault : first_of_all (map (update_fault l.decls) (drop l.update-index l.updates)) ≡ first_of_all (map (update_fault l.decls) l.updates);
  accepted : l.accepted ≡ map (update_of l.decls) (take l.update-index l.updates);
}
