-- The tokens of a text: their names are names, and their numbers are below 2^64.
use Rattle.std.proofs.Common.{◌≡◌, ℕ, ◌<◌, ◌^◌, ◌++◌, Bool, true, false, cond, List, [], ◌∷◌, map, refl, Option, Some, None, arith, nat_lt}
use Rattle.std.specs.Prelude.{⊤, ◌==◌}
use Rattle.std.proofs.lemmas.Bool.Decides.{nat_tests}
use Rattle.dt_model.specs.Texts.{number_of}
use Rattle.dt_model.specs.Names.{is_name}
use Rattle.dt_text.specs.declared.spans.Span.{Span}
use Rattle.dt_text.specs.Spans.{bytes_of}
use Rattle.dt_text.specs.Numerals.{positive_in_range, whole_of}
use Rattle.index_read.specs.declared.lexer.Token.{Token}
use Rattle.index_read.specs.declared.lexer.Token.TheVariants as a
use Rattle.index_read.specs.Tokens.{spans_of, is_number, mark_of, token_of, tokens_of}

-- a number below 2^64, if there is one
abbrev pub IsValue : Option ℕ → Type 0
IsValue None = ⊤
IsValue (Some n) = n < 2 ^ 64

-- a name is a name, and a number is below 2^64
abbrev pub IsGood : Token → Type 0
IsGood (a.Word w) = is_name w ≡ true
IsGood (a.Number n) = IsValue n
IsGood t = ⊤

-- each of some tokens is so
abbrev pub AreGood : List Token → Type 0
AreGood [] = ⊤
AreGood (t ∷ ts) = IsGood t × AreGood ts

-- the first one
pub good_head : (t : Token) (ts : List Token) → AreGood (t ∷ ts) → IsGood t
good_head t ts h = h.0

-- the others
pub good_tail : (t : Token) (ts : List Token) → AreGood (t ∷ ts) → AreGood ts
good_tail t ts h = h.1

-- the tokens of a first part
pub AreGood-front : (xs ys : List Token) → AreGood (xs ++ ys) → AreGood xs
AreGood-front [] ys h = tt
AreGood-front (x ∷ xs) ys h = (h.0, AreGood-front xs ys h.1)

-- the tokens of what follows it
pub AreGood-rest : (xs ys : List Token) → AreGood (xs ++ ys) → AreGood ys
AreGood-rest [] ys h = h
AreGood-rest (x ∷ xs) ys h = AreGood-rest xs ys h.1

positive_by : (n : ℕ) (b : Bool) → nat_lt n (2 ^ 64) ≡ b → IsValue (cond b (Some n) None)
positive_by n true e = grind (arith, nat_tests)
positive_by n false e = tt

positive : (o : Option ℕ) → IsValue (positive_in_range o)
positive None = tt
positive (Some n) = positive_by n (nat_lt n (2 ^ 64)) refl

-- what digits write is below 2^64
whole_value : (word : List ℕ) → IsValue (whole_of word)
whole_value word = positive (number_of word)

either_good : (b : Bool) (x y : Token) → IsGood x → IsGood y → IsGood (cond b x y)
either_good true x y h k = h
either_good false x y h k = k

mark_good : (word : List ℕ) → IsGood (mark_of word)
mark_good [] = tt
mark_good (b ∷ []) =
    either_good (b == 40) a.Open _ tt (either_good (b == 41) a.Close _ tt (either_good (b == 44) a.Comma _ tt (either_good (b == 61) a.Equals _ tt
    (either_good (b == 43) a.Plus _ tt (either_good (b == 45) a.Minus _ tt (either_good (b == 42) a.Times a.Stray tt tt))))))
mark_good (b ∷ c ∷ bs) = tt

token_by : (word : List ℕ) (b : Bool) → is_name word ≡ b → IsGood (cond b (a.Word word) (cond (is_number word) (a.Number (whole_of word)) (mark_of word)))
token_by word true e = e
token_by word false e = either_good (is_number word) (a.Number (whole_of word)) (mark_of word) (whole_value word) (mark_good word)

all_good : (text : List ℕ) (ss : List Span) → AreGood (map (λ s. token_of (bytes_of text s)) ss)
all_good text [] = tt
all_good text (s ∷ ss) = (token_by (bytes_of text s) (is_name (bytes_of text s)) refl, all_good text ss)

-- the tokens of a text are so
pub AreGood-tokens_of : (text : List ℕ) → AreGood (tokens_of text)
AreGood-tokens_of text = all_good text (spans_of text)
