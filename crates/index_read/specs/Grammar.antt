-- Statements as they are written, and what they mean.
use Rattle.std.specs.Prelude.{ℕ, List, [], ◌∷◌, ◌++◌, Option, ◌≡◌}
use Rattle.index_read.specs.declared.lexer.Token.{Token}
use Rattle.index_read.specs.declared.lexer.Token.TheVariants as a

-- an expression as it is written
mutual
  -- a number, an access to a tensor by a first variable and others, or an expression in parentheses
  pub data Factor : Type 0 where
    Number : Option ℕ → Factor
    Access : List ℕ → List ℕ → List (List ℕ) → Factor
    Parens : Terms → Factor

  -- a factor, or some and another one
  pub data Factors : Type 0 where
    One : Factor → Factors
    Times : Factors → Factor → Factors

  -- a term, a term behind a minus, or some and another one behind a plus or a minus
  pub data Terms : Type 0 where
    First : Factors → Terms
    Negated : Factors → Terms
    Plus : Terms → Factors → Terms
    Minus : Terms → Factors → Terms

-- variables as they are written: a first one and others
abbrev pub list_tokens : List ℕ → List (List ℕ) → List Token
list_tokens v [] = a.Word v ∷ []
list_tokens v (w ∷ ws) = a.Word v ∷ a.Comma ∷ list_tokens w ws

-- the tokens of a factor, of factors and of terms
abbrev mutual
  pub factor_tokens : Factor → List Token
  factor_tokens (Number n) = a.Number n ∷ []
  factor_tokens (Access tensor v vs) = a.Word tensor ∷ a.Open ∷ (list_tokens v vs ++ a.Close ∷ [])
  factor_tokens (Parens e) = a.Open ∷ (terms_tokens e ++ a.Close ∷ [])

  pub factors_tokens : Factors → List Token
  factors_tokens (One f) = factor_tokens f
  factors_tokens (Times fs f) = factors_tokens fs ++ a.Times ∷ factor_tokens f

  pub terms_tokens : Terms → List Token
  terms_tokens (First t) = factors_tokens t
  terms_tokens (Negated t) = a.Minus ∷ factors_tokens t
  terms_tokens (Plus e t) = terms_tokens e ++ a.Plus ∷ factors_tokens t
  terms_tokens (Minus e t) = terms_tokens e ++ a.Minus ∷ factors_tokens t

-- a left side as it is written: a name, and a first variable and others, where there are any
pub data Left : Type 0 where
  Bare : List ℕ → Left
  Listing : List ℕ → List ℕ → List (List ℕ) → Left

-- the tokens of a left side
abbrev pub left_tokens : Left → List Token
left_tokens (Bare name) = a.Word name ∷ []
left_tokens (Listing name v vs) = a.Word name ∷ a.Open ∷ (list_tokens v vs ++ a.Close ∷ [])

-- a statement as it is written
abbrev pub stmt_tokens : Left → Terms → List Token
stmt_tokens left right = left_tokens left ++ a.Equals ∷ terms_tokens right

-- tokens with which a statement begins
pub record Begins (ts : List Token) : Type 0 where
  pub left : Left
  pub right : Terms
  pub more : List Token
  pub is : ts ++ more ≡ stmt_tokens left right
