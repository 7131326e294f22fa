use Rattle.std.proofs.Common.{◌≡◌, length, sum_by, take}
use Rattle.commit_core.proofs.opening.lines_in.Given as goal

abbrev pub invariant-loop-script : goal.invariant-loop-script
invariant-loop-script l = l.lines ≡ sum_by length (take l.script-index l.script-items)
