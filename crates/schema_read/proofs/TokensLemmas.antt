-- The tokens of texts that are put together from words.
use Rattle.std.proofs.Common.{◌≡◌, ℕ, ◌++◌, Bool, true, false, cond, not, List, [], ◌∷◌, length, map, filter, refl, ap, sym, ◌∙◌, Option, Some, None}
use Rattle.std.specs.List.{filter_map}
use Rattle.dt_text.specs.declared.spans.Span.{Span}
use Rattle.dt_text.specs.Spans.{bytes_of}
use Rattle.dt_text.specs.Lexer.{token_spans, token_values}
use Rattle.dt_text.proofs.LexerLemmas.{token_values-gap, token_values-word}
use Rattle.schema_read.specs.declared.lexer.Token.{Token}
use Rattle.schema_read.specs.Tokens.{is_gap, run_after, is_comment, token_of, tokens_of}

-- the token of bytes that are no comment
abbrev value : List ℕ → Option Token
value word = cond (is_comment word) None (Some (token_of word))

-- the tokens that are there
abbrev present : List (Option Token) → List Token
present os = filter_map (λ o. o) os

present_by : (b : Bool) (t : Token) (s : Span) (text : List ℕ) (ss : List Span) (os : List (Option Token))
    → map (λ x. token_of (bytes_of text x)) (filter (λ x. not (is_comment (bytes_of text x))) ss) ≡ present os → t ≡ token_of (bytes_of text s)
    → map (λ x. token_of (bytes_of text x))
    (cond (not b) (s ∷ filter (λ x. not (is_comment (bytes_of text x))) ss) (filter (λ x. not (is_comment (bytes_of text x))) ss))
    ≡ present (cond b None (Some t) ∷ os)
present_by true t s text ss os h e = h
present_by false t s text ss os h e = rw (h, e) refl

all_present : (text : List ℕ) (ss : List Span)
    → map (λ x. token_of (bytes_of text x)) (filter (λ x. not (is_comment (bytes_of text x))) ss) ≡ present (map (λ x. value (bytes_of text x)) ss)
all_present text [] = refl
all_present text (s ∷ ss) =
    present_by (is_comment (bytes_of text s)) (token_of (bytes_of text s)) s text ss (map (λ x. value (bytes_of text x)) ss) (all_present text ss) refl

-- the tokens are what is no comment of all that the text has
values_of : (text : List ℕ) → tokens_of text ≡ present (token_values is_gap run_after value text)
values_of text = all_present text (token_spans is_gap run_after text)

-- a gap makes no token
pub tokens_of-gap : (b : ℕ) (bs : List ℕ) → is_gap b ≡ true → tokens_of (b ∷ bs) ≡ tokens_of bs
tokens_of-gap b bs e = values_of (b ∷ bs) ∙ ap present (token_values-gap is_gap run_after value b bs e) ∙ sym (values_of bs)

-- a word that is a token with what follows, and the tokens of what follows
pub tokens_of-word : (b : ℕ) (bs rest : List ℕ) → is_gap b ≡ false → is_comment (b ∷ bs) ≡ false → run_after b (bs ++ rest) ≡ length bs
    → tokens_of ((b ∷ bs) ++ rest) ≡ token_of (b ∷ bs) ∷ tokens_of rest
tokens_of-word b bs rest e f g =
    let one : value (b ∷ bs) ≡ Some (token_of (b ∷ bs)) = rw f refl in
    values_of ((b ∷ bs) ++ rest)
    ∙ ap present (token_values-word is_gap run_after value b bs rest e g)
    ∙ ap (λ o. present (o ∷ token_values is_gap run_after value rest)) one
    ∙ ap (λ ts. token_of (b ∷ bs) ∷ ts) (sym (values_of rest))
