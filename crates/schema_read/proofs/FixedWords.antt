-- The tokens of fixed words before what follows them, with the gaps beside them.
use Rattle.std.proofs.Common.{◌≡◌, ℕ, ◌++◌, false, List, [], ◌∷◌, length, refl, ap, ◌∙◌}
use Rattle.std.specs.Prelude.{codes}
use Rattle.schema_read.specs.declared.lexer.Token.{Token}
use Rattle.schema_read.specs.declared.lexer.Token.TheVariants as a
use Rattle.schema_read.specs.Tokens.{is_gap, run_after, is_comment, token_of, tokens_of}
use Rattle.schema_read.proofs.TokensLemmas.{tokens_of-gap, tokens_of-word}

word : (b : ℕ) (bs rest : List ℕ) (t : Token) → is_gap b ≡ false → is_comment (b ∷ bs) ≡ false → run_after b (bs ++ rest) ≡ length bs → token_of (b ∷ bs) ≡ t
    → tokens_of ((b ∷ bs) ++ rest) ≡ t ∷ tokens_of rest
word b bs rest t e f g h = tokens_of-word b bs rest e f g ∙ ap (λ x. x ∷ tokens_of rest) h

-- one blank
blank : (rest : List ℕ) → tokens_of (32 ∷ rest) ≡ tokens_of rest
blank rest = tokens_of-gap 32 rest refl

feed : (rest : List ℕ) → tokens_of (10 ∷ rest) ≡ tokens_of rest
feed rest = tokens_of-gap 10 rest refl

-- `schema` and a blank
pub schema_word : (rest : List ℕ) → tokens_of (codes "schema " ++ rest) ≡ a.Schema ∷ tokens_of rest
schema_word rest = word 115 (codes "chema") (32 ∷ rest) a.Schema refl refl refl refl ∙ ap (λ ts. a.Schema ∷ ts) (blank rest)

-- two blanks, `node` and a blank
pub node_word : (rest : List ℕ) → tokens_of (codes "  node " ++ rest) ≡ a.Node ∷ tokens_of rest
node_word rest =
    blank (32 ∷ (codes "node " ++ rest)) ∙ blank (codes "node " ++ rest)
    ∙ word 110 (codes "ode") (32 ∷ rest) a.Node refl refl refl refl ∙ ap (λ ts. a.Node ∷ ts) (blank rest)

-- two blanks, `root` and a blank
pub root_word : (rest : List ℕ) → tokens_of (codes "  root " ++ rest) ≡ a.Root ∷ tokens_of rest
root_word rest =
    blank (32 ∷ (codes "root " ++ rest)) ∙ blank (codes "root " ++ rest)
    ∙ word 114 (codes "oot") (32 ∷ rest) a.Root refl refl refl refl ∙ ap (λ ts. a.Root ∷ ts) (blank rest)

-- a blank, an opening brace, `run` and a blank
pub run_word : (rest : List ℕ) → tokens_of (codes " { run " ++ rest) ≡ a.Open ∷ a.Run ∷ tokens_of rest
run_word rest =
    blank (codes "{ run " ++ rest)
    ∙ word 123 [] (codes " run " ++ rest) a.Open refl refl refl refl
    ∙ ap (λ ts. a.Open ∷ ts) (blank (codes "run " ++ rest) ∙ word 114 (codes "un") (32 ∷ rest) a.Run refl refl refl refl ∙ ap (λ ts. a.Run ∷ ts) (blank rest))

-- two points
pub points_word : (rest : List ℕ) → tokens_of (codes ".." ++ rest) ≡ a.Points ∷ tokens_of rest
points_word rest = word 46 (46 ∷ []) rest a.Points refl refl refl refl

-- a blank, `post` and a blank
pub post_word : (rest : List ℕ) → tokens_of (codes " post " ++ rest) ≡ a.Post ∷ tokens_of rest
post_word rest =
    blank (codes "post " ++ rest) ∙ word 112 (codes "ost") (32 ∷ rest) a.Post refl refl refl refl ∙ ap (λ ts. a.Post ∷ ts) (blank rest)

-- a blank, `pre` and a blank
pub pre_word : (rest : List ℕ) → tokens_of (codes " pre " ++ rest) ≡ a.Pre ∷ tokens_of rest
pre_word rest =
    blank (codes "pre " ++ rest) ∙ word 112 (codes "re") (32 ∷ rest) a.Pre refl refl refl refl ∙ ap (λ ts. a.Pre ∷ ts) (blank rest)

-- a blank and `woven`, before a blank
pub woven_word : (rest : List ℕ) → tokens_of (codes " woven" ++ 32 ∷ rest) ≡ a.Woven ∷ tokens_of (32 ∷ rest)
woven_word rest = blank (codes "woven" ++ 32 ∷ rest) ∙ word 119 (codes "oven") (32 ∷ rest) a.Woven refl refl refl refl

-- a blank and a closing brace at the end of a line
pub close_line : (rest : List ℕ) → tokens_of (codes " }" ++ 10 ∷ rest) ≡ a.Close ∷ tokens_of rest
close_line rest = blank (125 ∷ 10 ∷ rest) ∙ word 125 [] (10 ∷ rest) a.Close refl refl refl refl ∙ ap (λ ts. a.Close ∷ ts) (feed rest)

-- a blank and an opening brace at the end of a line
pub open_line : (rest : List ℕ) → tokens_of (codes " {" ++ 10 ∷ rest) ≡ a.Open ∷ tokens_of rest
open_line rest = blank (123 ∷ 10 ∷ rest) ∙ word 123 [] (10 ∷ rest) a.Open refl refl refl refl ∙ ap (λ ts. a.Open ∷ ts) (feed rest)

-- a closing brace that is a line
pub last_line : (rest : List ℕ) → tokens_of (10 ∷ 125 ∷ 10 ∷ rest) ≡ a.Close ∷ tokens_of rest
last_line rest = feed (125 ∷ 10 ∷ rest) ∙ word 125 [] (10 ∷ rest) a.Close refl refl refl refl ∙ ap (λ ts. a.Close ∷ ts) (feed rest)
