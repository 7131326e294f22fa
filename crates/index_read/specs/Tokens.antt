-- The tokens of a statement, with their places.
use Rattle.std.specs.Prelude.{ℕ, ◌==◌, Bool, false, List, [], ◌∷◌, if◌then◌else◌}
use Rattle.std.specs.List.{prefix_len, list_all}
use Rattle.std.specs.Char.{is_ascii_digit}
use Rattle.dt_model.specs.Texts.{is_blank}
use Rattle.dt_model.specs.Names.{is_name, is_name_start, is_name_byte}
use Rattle.dt_text.specs.declared.spans.Span.{Span}
use Rattle.dt_text.specs.Lexer.{token_spans_from, token_spans, token_values}
use Rattle.dt_text.specs.Numerals.{whole_of}
use Rattle.index_read.specs.declared.lexer.Token.{Token}
use Rattle.index_read.specs.declared.lexer.Token.TheVariants as a

-- how many bytes belong to the token that begins with a byte, beside it
abbrev pub run_after : ℕ → List ℕ → ℕ
run_after b bs = if is_name_start b then prefix_len is_name_byte bs else (if is_ascii_digit b then prefix_len is_ascii_digit bs else 0)

-- the places of the tokens from a place on, of whose bytes the first ones belong to a token before them
abbrev pub spans_from : ℕ → ℕ → List ℕ → List Span
spans_from at before bs = token_spans_from is_blank run_after at before bs

-- the places of the tokens of a text
abbrev pub spans_of : List ℕ → List Span
spans_of text = token_spans is_blank run_after text

-- the token of one byte
abbrev pub mark_of_byte : ℕ → Token
mark_of_byte b = if b == 40 then a.Open else (if b == 41 then a.Close else (if b == 44 then a.Comma else (if b == 61 then a.Equals
    else (if b == 43 then a.Plus else (if b == 45 then a.Minus else (if b == 42 then a.Times else a.Stray))))))

-- the token that is neither a name nor a number
abbrev pub mark_of : List ℕ → Token
mark_of [] = a.Stray
mark_of (b ∷ []) = mark_of_byte b
mark_of (b ∷ c ∷ bs) = a.Stray

-- one or more digits
abbrev pub is_number : List ℕ → Bool
is_number [] = false
is_number (b ∷ bs) = list_all is_ascii_digit (b ∷ bs)

-- the token that some bytes are
abbrev pub token_of : List ℕ → Token
token_of word = if is_name word then a.Word word else (if is_number word then a.Number (whole_of word) else mark_of word)

-- the tokens of a text
abbrev pub tokens_of : List ℕ → List Token
tokens_of text = token_values is_blank run_after token_of text
