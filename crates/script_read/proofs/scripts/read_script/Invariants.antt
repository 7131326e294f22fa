use Rattle.std.proofs.Common.{◌≡◌, ◌+◌, length}
use Rattle.std.specs.Prelude.{sum_by}
use Rattle.dt_model.specs.Worlds.{updates_in}
use Rattle.script_read.specs.Readings.{each_after}
use Rattle.script_read.specs.Scripts.{numbered_verdict, script_of}
use Rattle.script_read.proofs.scripts.read_script.Given as goal

abbrev pub invariant-loop-line : goal.invariant-loop-line
invariant-loop-line l = record {
  left : each_after (numbered_verdict l.decls l.most) l.verdicts l.lines ≡ script_of l.decls l.most l.fn.text;
  room : l.left + sum_by updates_in l.verdicts ≡ l.most;
}

abbrev pub decreases-loop-line : goal.decreases-loop-line
decreases-loop-line l = length l.lines
