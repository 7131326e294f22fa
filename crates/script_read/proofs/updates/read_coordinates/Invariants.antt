use Rattle.std.proofs.Common.{◌≡◌, ◌≤◌, ◌++◌, drop, map, length, Ok}
use Rattle.script_read.specs.Readings.{◌>>=◌}
use Rattle.script_read.specs.Words.{seen_word}
use Rattle.script_read.specs.Updates.{written_coordinates}
use Rattle.script_read.proofs.updates.read_coordinates.Given as goal

abbrev pub invariant-loop-word : goal.invariant-loop-word
invariant-loop-word l = record {
  left : (written_coordinates (map seen_word (drop l.word-index l.words)) >>= (λ cs. Ok (l.coordinates ++ cs))) ≡ written_coordinates (map seen_word l.words);
  count : length l.coordinates ≤ l.word-index;
}
