-- Lines and columns, which count from 1.
use Rattle.std.specs.Prelude.{ℕ, ◌+◌, ◌==◌, not, List, length}
use Rattle.std.specs.List.{count_by, suffix_len}
use Rattle.dt_model.specs.declared.limits.TheConstants.{LINE_FEED}
use Rattle.dt_model.specs.Texts.{strip_cr}

-- the line of what is behind some bytes: one more than their line feeds
abbrev pub line_behind : List ℕ → ℕ
line_behind front = count_by (λ b. b == LINE_FEED) front + 1

-- its column: one more than the bytes behind the last line feed
abbrev pub column_behind : List ℕ → ℕ
column_behind front = suffix_len (λ b. not (b == LINE_FEED)) front + 1

-- the place of the end: behind the last byte, where one carriage return at the end is dropped
abbrev pub text_end : List ℕ → ℕ
text_end text = length (strip_cr text)
