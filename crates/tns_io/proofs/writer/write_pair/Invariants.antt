use Rattle.std.proofs.Common.{◌≡◌, ◌++◌, take}
use Rattle.tns_io.proofs.WrittenLines.{coordinate_pieces}
use Rattle.tns_io.proofs.writer.write_pair.Given as goal

abbrev pub invariant-loop-coordinate : goal.invariant-loop-coordinate
invariant-loop-coordinate l = l.into.items ≡ l.fn.into.items ++ coordinate_pieces (take l.coordinate-index l.at)
