-- The tokens of a statement's text.
use Rattle.std.proofs.Common.{◌≡◌, ℕ, ◌-◌, ◌++◌, Bool, true, false, cond, List, ◌∷◌, length, refl, arith}
use Rattle.std.specs.List.{prefix_len, suffix_len}
use Rattle.std.specs.Char.{is_ascii_digit}
use Rattle.std.proofs.lemmas.Bool.Decides.{nat_tests}
use Rattle.dt_model.specs.Texts.{is_blank}
use Rattle.dt_model.specs.Names.{is_name_start, is_name_byte}
use Rattle.dt_text.specs.Lexer.{end_of}
use Rattle.dt_text.proofs.LexerLemmas.{token_values-gap, token_values-word}
use Rattle.dt_text.proofs.LexerEnds.{HasNoGap, HasNoGap-prefix_len, end_of-token_spans}
use Rattle.index_read.specs.Tokens.{spans_of, run_after, token_of, tokens_of}

-- a byte of a name is no blank
pub name_byte-no_blank : (x : ℕ) → is_name_byte x ≡ true → is_blank x ≡ false
name_byte-no_blank x h = grind (arith, nat_tests)

-- a digit is no blank
pub digit-no_blank : (x : ℕ) → is_ascii_digit x ≡ true → is_blank x ≡ false
digit-no_blank x h = grind (arith, nat_tests)

run_by : (bs : List ℕ) (s t : Bool) → HasNoGap is_blank (cond s (prefix_len is_name_byte bs) (cond t (prefix_len is_ascii_digit bs) 0)) bs
run_by bs true t = HasNoGap-prefix_len is_blank is_name_byte bs name_byte-no_blank
run_by bs false true = HasNoGap-prefix_len is_blank is_ascii_digit bs digit-no_blank
run_by bs false false = tt

-- no token has a blank in it
no_blanks : (b : ℕ) (bs : List ℕ) → HasNoGap is_blank (run_after b bs) bs
no_blanks b bs = run_by bs (is_name_start b) (is_ascii_digit b)

-- the last token ends at the last byte that is no blank
pub end_of-spans_of : (text : List ℕ) → end_of 0 (spans_of text) ≡ length text - suffix_len is_blank text
end_of-spans_of text = end_of-token_spans is_blank run_after no_blanks text

-- a blank makes no token
pub tokens_of-blank : (bs : List ℕ) → tokens_of (32 ∷ bs) ≡ tokens_of bs
tokens_of-blank bs = token_values-gap is_blank run_after token_of 32 bs refl

-- a word that is a token with what follows, and the tokens of what follows
pub tokens_of-word : (b : ℕ) (bs rest : List ℕ) → is_blank b ≡ false → run_after b (bs ++ rest) ≡ length bs
    → tokens_of ((b ∷ bs) ++ rest) ≡ token_of (b ∷ bs) ∷ tokens_of rest
tokens_of-word b bs rest e f = token_values-word is_blank run_after token_of b bs rest e f
