use Rattle.std.proofs.Common.{◌≡◌, drop, length, map, All}
use Rattle.dt_model.specs.Texts.{words_of}
use Rattle.dt_text.specs.Spans.{bytes_of, IsSpanOf}
use Rattle.tns_io.specs.Tns.{pair_of, in_front}
use Rattle.tns_io.proofs.pair_lines.read_pair.Given as goal

abbrev pub invariant-loop-i : goal.invariant-loop-i
invariant-loop-i l = record {
  pair : in_front l.at (pair_of (drop l.i l.dims) (map (bytes_of l.line) l.spans)) ≡ pair_of l.dims (words_of l.line);
  order : length l.at ≡ l.i;
  inside : All (IsSpanOf l.line) l.spans;
}
