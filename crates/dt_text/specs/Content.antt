-- The lines of a text that aren't skipped.
use Rattle.std.specs.Prelude.{ℕ, Bool, true, not, List, [], ◌∷◌, filter, length, ◌==◌, if◌then◌else◌, nat_le}
use Rattle.std.specs.List.{enumerate_from}
use Rattle.dt_model.specs.declared.limits.TheConstants.{LINE_LIMIT}
use Rattle.dt_model.specs.Texts.{lines_of, is_blank}
use Rattle.dt_text.specs.declared.content.TheConstants.{COMMENT}

-- a line of blanks alone, or one whose first byte that is no blank is `#`
abbrev pub is_skipped : List ℕ → Bool
is_skipped [] = true
is_skipped (b ∷ bs) = if is_blank b then is_skipped bs else b == COMMENT

-- the lines that aren't skipped, each with its number, where the first line has number n
abbrev pub content_from : ℕ → List (List ℕ) → List (ℕ × List ℕ)
content_from n lines = filter (λ l. not (is_skipped l.1)) (enumerate_from n lines)

-- the lines of a text that aren't skipped, each with its number among all lines, counted from 1
abbrev pub content_lines : List ℕ → List (ℕ × List ℕ)
content_lines text = content_from 1 (lines_of text)

-- a line of at most `LINE_LIMIT` bytes
abbrev pub is_within_limit : List ℕ → Bool
is_within_limit line = nat_le (length line) LINE_LIMIT
