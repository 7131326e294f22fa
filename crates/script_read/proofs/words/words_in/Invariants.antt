use Rattle.std.proofs.Common.{◌≡◌, ◌≤◌, ◌+◌, ◌++◌, length, map}
use Rattle.std.specs.List.{All}
use Rattle.dt_text.specs.Spans.{IsSpanOf}
use Rattle.script_read.specs.Words.{word_at, columned_words, seen_word}
use Rattle.script_read.proofs.words.words_in.Given as goal

abbrev pub invariant-loop-span : goal.invariant-loop-span
invariant-loop-span l = record {
  left : map seen_word l.found.items ++ map (word_at l.before l.text) l.spans ≡ columned_words l.before l.text;
  inside : All (IsSpanOf l.text) l.spans;
  within : All (λ w. w.column ≤ l.before + length l.text + 1) l.found.items;
}

abbrev pub decreases-loop-span : goal.decreases-loop-span
decreases-loop-span l = length l.spans
