use Rattle.std.proofs.Common.{◌≡◌, ◌+◌, length}
use Rattle.tns_io.proofs.pair_lines.are_as_many.Given as goal

abbrev pub invariant-loop-i : goal.invariant-loop-i
invariant-loop-i l = l._i + length l.spans ≡ length l.fn.spans
