-- Texts as rows of words: a row is a line, whose words have a single space between them.
use Rattle.std.specs.Prelude.{ℕ, ◌-◌, ◌^◌, Bool, true, false, not, List, [], ◌∷◌, ◌++◌, map}
use Rattle.std.specs.Prelude.{filter, length, slice_index, take, Option, Some, None, ◌==◌, ◌||◌, ◌&&◌, if◌then◌else◌, nat_lt}
use Rattle.std.specs.List.{flat_map, join_with_byte, list_all, slice_split}
use Rattle.std.specs.Fmt.{decimal}
use Rattle.std.specs.Str.{all_ascii_digits}
use Rattle.std.specs.Str.Parse.{digits_value}
use Rattle.dt_model.specs.declared.limits.TheConstants.{LINE_FEED, CARRIAGE_RETURN, SPACE, TAB, MINUS}

-- ---- what is written

-- a row as a line, with a single space between words
abbrev pub line_of : List (List ℕ) → List ℕ
line_of row = join_with_byte SPACE row ++ LINE_FEED ∷ []

-- rows as lines
abbrev pub text_of : List (List (List ℕ)) → List ℕ
text_of rows = flat_map line_of rows

-- a value below 2^63 in decimal; another as the negative number that it is modulo 2^64
abbrev pub value_word : ℕ → List ℕ
value_word v = if nat_lt v (2 ^ 63) then decimal v else MINUS ∷ decimal (2 ^ 64 - v)

-- a byte that a word may have
abbrev pub is_word_byte : ℕ → Bool
is_word_byte b = not (b == SPACE) && not (b == TAB) && not (b == LINE_FEED) && not (b == CARRIAGE_RETURN)

-- one or more such bytes
abbrev pub is_word : List ℕ → Bool
is_word [] = false
is_word (b ∷ bs) = is_word_byte b && list_all is_word_byte bs

-- ---- what is read

-- a space or a tab
abbrev pub is_blank : ℕ → Bool
is_blank b = (b == SPACE) || (b == TAB)

-- whether a list has an element
abbrev pub is_nonempty : List ℕ → Bool
is_nonempty [] = false
is_nonempty (b ∷ bs) = true

-- the longest runs of bytes that aren't blanks
abbrev pub words_of : List ℕ → List (List ℕ)
words_of line = filter is_nonempty (slice_split is_blank line)

-- without the last part, where that is empty
abbrev pub without_empty_end : List (List ℕ) → List (List ℕ)
without_empty_end [] = []
without_empty_end (x ∷ []) = (if is_nonempty x then x ∷ [] else [])
without_empty_end (x ∷ y ∷ ys) = x ∷ without_empty_end (y ∷ ys)

-- without one carriage return at the end
abbrev pub strip_cr : List ℕ → List ℕ
strip_cr line = if slice_index line (length line - 1) == CARRIAGE_RETURN then take (length line - 1) line else line

-- the lines of a text: what is before each line feed, and after the last one where that isn't empty
abbrev pub lines_of : List ℕ → List (List ℕ)
lines_of text = map strip_cr (without_empty_end (slice_split (λ b. b == LINE_FEED) text))

-- the words of each line of a text
abbrev pub rows_of : List ℕ → List (List (List ℕ))
rows_of text = map words_of (lines_of text)

-- the number that a word writes, if it is digits
abbrev pub number_of : List ℕ → Option ℕ
number_of word = if is_nonempty word && all_ascii_digits word then Some (digits_value 10 word) else None
