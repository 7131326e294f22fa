use Rattle.std.proofs.Common.{◌≡◌, ◌++◌, length}
use Rattle.dyntensor.proofs.gathering.append_lines.Given as goal

abbrev pub invariant-loop-line : goal.invariant-loop-line
invariant-loop-line l = l.lines ++ l.rest ≡ l.fn.lines ++ l.more

abbrev pub decreases-loop-line : goal.decreases-loop-line
decreases-loop-line l = length l.rest
