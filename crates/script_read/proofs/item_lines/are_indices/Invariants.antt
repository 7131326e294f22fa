use Rattle.std.proofs.Common.{◌≡◌, drop, map}
use Rattle.std.specs.List.{list_all}
use Rattle.script_read.specs.Words.{word_bytes}
use Rattle.script_read.specs.ManifestLines.{is_index}
use Rattle.script_read.proofs.item_lines.are_indices.Given as goal

abbrev pub invariant-loop-word : goal.invariant-loop-word
invariant-loop-word l = list_all is_index (map word_bytes (drop l.word-index l.words)) ≡ list_all is_index (map word_bytes l.words)
