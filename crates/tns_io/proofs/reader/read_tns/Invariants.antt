use Rattle.std.proofs.Common.{◌≡◌, length}
use Rattle.tns_io.specs.Tns.{with_front, tns_from, tns_of}
use Rattle.tns_io.proofs.reader.read_tns.Given as goal

abbrev pub invariant-loop-content : goal.invariant-loop-content
invariant-loop-content l = with_front l.pairs (tns_from l.dims l.more l.lines) ≡ tns_of l.fn.dims l.fn.most l.fn.text

abbrev pub decreases-loop-content : goal.decreases-loop-content
decreases-loop-content l = length l.lines
