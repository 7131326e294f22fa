use Rattle.std.proofs.Common.{◌≡◌, ◌^◌, ◌-◌, ◌++◌, drop, map, length}
use Rattle.std.specs.Prelude.{option_map}
use Rattle.script_read.specs.Words.{word_bytes}
use Rattle.script_read.specs.Readings.{every}
use Rattle.script_read.specs.ManifestLines.{number_up_to}
use Rattle.script_read.proofs.item_lines.read_dims.Given as goal

abbrev pub invariant-loop-word : goal.invariant-loop-word
invariant-loop-word l = record {
  left : option_map (λ ns. l.dims ++ ns) (every (number_up_to (2 ^ 32 - 1)) (map word_bytes (drop l.word-index l.words)))
      ≡ every (number_up_to (2 ^ 32 - 1)) (map word_bytes l.words);
  count : length l.dims ≡ l.word-index;
}
