use Rattle.std.proofs.Common.{◌≡◌, ◌++◌, drop, map, length}
use Rattle.std.specs.Prelude.{option_map}
use Rattle.script_read.specs.Words.{word_bytes}
use Rattle.script_read.specs.Readings.{every}
use Rattle.script_read.specs.ManifestLines.{name_in}
use Rattle.script_read.proofs.item_lines.read_names.Given as goal

abbrev pub invariant-loop-word : goal.invariant-loop-word
invariant-loop-word l = record {
  left : option_map (λ ns. l.names.items ++ ns) (every name_in (map word_bytes (drop l.word-index l.words))) ≡ every name_in (map word_bytes l.words);
  count : length l.names.items ≡ l.word-index;
}
