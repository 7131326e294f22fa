-- The words of a line with their columns.
use Rattle.std.specs.Prelude.{ℕ, ◌+◌, List, map}
use Rattle.dt_text.specs.declared.spans.Span.{Span}
use Rattle.dt_text.specs.Spans.{word_spans, bytes_of}
use Rattle.script_read.specs.declared.words.Word.{Word}

-- a word of a text with the column of its first byte, counted from 1, where so many bytes of the line are before the text
abbrev pub word_at : ℕ → List ℕ → Span → ℕ × List ℕ
word_at before text span = (before + span.from + 1, bytes_of text span)

-- the words of a text, each with its column in the line
abbrev pub columned_words : ℕ → List ℕ → List (ℕ × List ℕ)
columned_words before text = map (word_at before text) (word_spans text)

-- the bytes of a word
abbrev pub word_bytes : Word → List ℕ
word_bytes w = w.bytes.now

-- a word as its column and its bytes
abbrev pub seen_word : Word → ℕ × List ℕ
seen_word w = (w.column, w.bytes.now)
