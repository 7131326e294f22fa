-- The tokens of a schema file, with their places.
use Rattle.std.specs.Prelude.{ℕ, ◌==◌, ◌||◌, ◌&&◌, Bool, false, not, List, [], ◌∷◌, map, drop, filter, length, Option, Some, None, if◌then◌else◌, nat_eq, nat_le, codes}
use Rattle.std.specs.List.{prefix_len}
use Rattle.std.specs.Char.{is_ascii_digit}
use Rattle.std.specs.Cmp.Lexicographic.{pointwise}
use Rattle.dt_model.specs.declared.limits.TheConstants.{LINE_FEED, CARRIAGE_RETURN}
use Rattle.dt_model.specs.Texts.{is_blank, number_of}
use Rattle.dt_model.specs.Names.{is_name, is_name_start, is_name_byte}
use Rattle.dt_text.specs.declared.spans.Span.{Span}
use Rattle.dt_text.specs.Spans.{bytes_of}
use Rattle.dt_text.specs.Lexer.{token_spans_from}
use Rattle.schema_read.specs.declared.lexer.TheConstants.{MOST_DIGITS, HASH, POINT}
use Rattle.schema_read.specs.declared.lexer.Token.{Token}
use Rattle.schema_read.specs.declared.lexer.Token.TheVariants as a

-- a blank or a byte of a line end
abbrev pub is_gap : ℕ → Bool
is_gap b = is_blank b || (b == LINE_FEED) || (b == CARRIAGE_RETURN)

-- how many bytes of a comment are in front: all before the line feed
abbrev pub comment_run : List ℕ → ℕ
comment_run bs = prefix_len (λ b. not (b == LINE_FEED)) bs

-- one, if a point is in front
abbrev pub points : List ℕ → ℕ
points [] = 0
points (b ∷ bs) = if b == POINT then 1 else 0

-- how many bytes belong to the token that begins with a byte, beside it
abbrev pub run_after : ℕ → List ℕ → ℕ
run_after b bs = if is_name_start b then prefix_len is_name_byte bs else (if is_ascii_digit b then prefix_len is_ascii_digit bs
    else (if b == HASH then comment_run bs else (if b == POINT then points bs else 0)))

-- whether bytes are a comment
abbrev pub is_comment : List ℕ → Bool
is_comment [] = false
is_comment (b ∷ bs) = b == HASH

-- the places of the tokens from a place on; a comment is none
abbrev pub spans_from : List ℕ → ℕ → List Span
spans_from text at = filter (λ s. not (is_comment (bytes_of text s))) (token_spans_from is_gap run_after at 0 (drop at text))

-- the places of the tokens of a text
abbrev pub spans_of : List ℕ → List Span
spans_of text = spans_from text 0

-- the token of a name, which may be a reserved word
abbrev pub reserved : List ℕ → Token
reserved word = if pointwise nat_eq word (codes "schema") then a.Schema else (if pointwise nat_eq word (codes "node") then a.Node
    else (if pointwise nat_eq word (codes "run") then a.Run else (if pointwise nat_eq word (codes "root") then a.Root
    else (if pointwise nat_eq word (codes "pre") then a.Pre else (if pointwise nat_eq word (codes "post") then a.Post
    else (if pointwise nat_eq word (codes "woven") then a.Woven else a.Name word))))))

-- the number of one to nine digits
abbrev pub number_in : List ℕ → Option ℕ
number_in word = if nat_le (length word) MOST_DIGITS then number_of word else None

-- the token of bytes that begin neither a name nor a number
abbrev pub mark_of : List ℕ → Token
mark_of [] = a.Stray
mark_of (b ∷ []) = if b == 123 then a.Open else (if b == 125 then a.Close else a.Stray)
mark_of (b ∷ c ∷ []) = if (b == POINT) && (c == POINT) then a.Points else a.Stray
mark_of (b ∷ c ∷ d ∷ bs) = a.Stray

-- a number's token, or another one
abbrev pub number_or : Token → Option ℕ → Token
number_or t None = t
number_or t (Some n) = a.Number n

-- the token that some bytes are
abbrev pub token_of : List ℕ → Token
token_of word = if is_name word then reserved word else number_or (mark_of word) (number_in word)

-- the tokens that some spans name
abbrev pub tokens_in : List ℕ → List Span → List Token
tokens_in text xs = map (λ s. token_of (bytes_of text s)) xs

-- the tokens of a text
abbrev pub tokens_of : List ℕ → List Token
tokens_of text = tokens_in text (spans_of text)
