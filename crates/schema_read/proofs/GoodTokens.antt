-- The tokens of a text: a name is one that is read as itself, and a number is below 10^9.
use Rattle.std.proofs.Common.{◌≡◌, ℕ, ◌<◌, ◌^◌, ◌++◌, Bool, true, false, cond, List, [], ◌∷◌, refl, Option, Some, None}
use Rattle.std.specs.Prelude.{⊤, ◌==◌, ◌&&◌, codes, nat_eq}
use Rattle.std.specs.Cmp.Lexicographic.{pointwise}
use Rattle.dt_model.specs.Names.{is_name}
use Rattle.dt_text.specs.declared.spans.Span.{Span}
use Rattle.dt_text.specs.Spans.{bytes_of}
use Rattle.schema_read.specs.declared.lexer.TheConstants.{POINT}
use Rattle.schema_read.specs.declared.lexer.Token.{Token}
use Rattle.schema_read.specs.declared.lexer.Token.TheVariants as a
use Rattle.schema_read.specs.Tokens.{reserved, number_in, mark_of, number_or, tokens_in, tokens_of, spans_of}
use Rattle.schema_read.proofs.NumbersLemmas.{IsShort, IsShort-number_in}

-- bytes that are a name and no reserved word
pub record IsFree (word : List ℕ) : Type 0 where
  pub name : is_name word ≡ true
  pub free : reserved word ≡ a.Name word

-- a name is free, and a number is below 10^9
abbrev pub IsGood : Token → Type 0
IsGood (a.Name word) = IsFree word
IsGood (a.Number n) = n < 10 ^ 9
IsGood t = ⊤

-- each of some tokens is so
abbrev pub AreGood : List Token → Type 0
AreGood [] = ⊤
AreGood (t ∷ ts) = IsGood t × AreGood ts

-- the tokens of a first part
pub AreGood-front : (xs ys : List Token) → AreGood (xs ++ ys) → AreGood xs
AreGood-front [] ys h = tt
AreGood-front (x ∷ xs) ys h = (h.0, AreGood-front xs ys h.1)

-- the tokens of what follows it
pub AreGood-rest : (xs ys : List Token) → AreGood (xs ++ ys) → AreGood ys
AreGood-rest [] ys h = h
AreGood-rest (x ∷ xs) ys h = AreGood-rest xs ys h.1

-- the token of a name by the tests for reserved words
abbrev chosen : (b c d e f g h : Bool) → List ℕ → Token
chosen b c d e f g h word =
    cond b a.Schema (cond c a.Node (cond d a.Run (cond e a.Root (cond f a.Pre (cond g a.Post (cond h a.Woven (a.Name word)))))))

chosen_good : (b c d e f g h : Bool) (word : List ℕ) → is_name word ≡ true → reserved word ≡ chosen b c d e f g h word → IsGood (chosen b c d e f g h word)
chosen_good true c d e f g h word n r = tt
chosen_good false true d e f g h word n r = tt
chosen_good false false true e f g h word n r = tt
chosen_good false false false true f g h word n r = tt
chosen_good false false false false true g h word n r = tt
chosen_good false false false false false true h word n r = tt
chosen_good false false false false false false true word n r = tt
chosen_good false false false false false false false word n r = record { name = n; free = r }

reserved_good : (word : List ℕ) → is_name word ≡ true → IsGood (reserved word)
reserved_good word n =
    chosen_good (pointwise nat_eq word (codes "schema")) (pointwise nat_eq word (codes "node")) (pointwise nat_eq word (codes "run"))
    (pointwise nat_eq word (codes "root")) (pointwise nat_eq word (codes "pre")) (pointwise nat_eq word (codes "post"))
    (pointwise nat_eq word (codes "woven")) word n refl

either_good : (b : Bool) (x y : Token) → IsGood x → IsGood y → IsGood (cond b x y)
either_good true x y h k = h
either_good false x y h k = k

mark_good : (word : List ℕ) → IsGood (mark_of word)
mark_good [] = tt
mark_good (b ∷ []) = either_good (b == 123) a.Open _ tt (either_good (b == 125) a.Close a.Stray tt tt)
mark_good (b ∷ c ∷ []) = either_good ((b == POINT) && (c == POINT)) a.Points a.Stray tt tt
mark_good (b ∷ c ∷ d ∷ bs) = tt

number_good : (t : Token) (o : Option ℕ) → IsGood t → IsShort o → IsGood (number_or t o)
number_good t None h k = h
number_good t (Some n) h k = k

token_by : (word : List ℕ) (b : Bool) → is_name word ≡ b → IsGood (cond b (reserved word) (number_or (mark_of word) (number_in word)))
token_by word true e = reserved_good word e
token_by word false e = number_good (mark_of word) (number_in word) (mark_good word) (IsShort-number_in word)

all_good : (text : List ℕ) (ss : List Span) → AreGood (tokens_in text ss)
all_good text [] = tt
all_good text (s ∷ ss) = (token_by (bytes_of text s) (is_name (bytes_of text s)) refl, all_good text ss)

-- the tokens of a text are so
pub AreGood-tokens_of : (text : List ℕ) → AreGood (tokens_of text)
AreGood-tokens_of text = all_good text (spans_of text)
