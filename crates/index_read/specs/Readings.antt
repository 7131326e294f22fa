-- Where a fault stands, in the grammar's own words.
use Rattle.std.specs.Prelude.{ℕ, ◌+◌, ◌≡◌, ◌⊎◌, List, [], ◌∷◌, ◌++◌, map, Option, Some, None}
use Rattle.dt_text.specs.declared.spans.Span.{Span}
use Rattle.dt_text.specs.Spans.{bytes_of}
use Rattle.index_read.specs.declared.lexer.Token.{Token}
use Rattle.index_read.specs.declared.read.StmtFault.{StmtFault}
use Rattle.index_read.specs.declared.read.StmtFault.TheVariants as because
use Rattle.dt_text.specs.Spans.{end_column}
use Rattle.index_read.specs.Tokens.{spans_of, token_of, tokens_of}
use Rattle.index_read.specs.Grammar.{Left, Terms, stmt_tokens, Begins}
use Rattle.index_read.specs.declared.roles.Role.{Role}
use Rattle.index_read.specs.Excess.{BeginsAs, PassesLimit}

-- the tokens that some spans name
abbrev pub tokens_in : List ℕ → List Span → List Token
tokens_in text xs = map (λ s. token_of (bytes_of text s)) xs

-- a text that is a statement, as it is written
pub record IsWritten (text : List ℕ) : Type 0 where
  pub left : Left
  pub right : Terms
  pub is : tokens_of text ≡ stmt_tokens left right

-- the tokens before this one begin a statement, and with it they do not
pub record IsFormFaultAt (text : List ℕ) (column : ℕ) : Type 0 where
  pub front : List Span
  pub token : Span
  pub behind : List Span
  pub split : spans_of text ≡ front ++ token ∷ behind
  pub there : column ≡ token.from + 1
  pub begins : Begins (tokens_in text front)
  pub stops : Begins (tokens_in text (front ++ token ∷ [])) → ⊥

-- the tokens begin a statement and are none
pub record IsFormFaultAtEnd (text : List ℕ) (column : ℕ) : Type 0 where
  pub there : column ≡ end_column text
  pub begins : Begins (tokens_of text)
  pub lacks : IsWritten text → ⊥

-- a statement may begin so, and a limit is passed at this token
pub record IsLimitFaultAt (text : List ℕ) (column : ℕ) : Type 0 where
  pub front : List Span
  pub token : Span
  pub behind : List Span
  pub split : spans_of text ≡ front ++ token ∷ behind
  pub there : column ≡ token.from + 1
  pub before : List Role
  pub role : Role
  pub begins : BeginsAs (tokens_in text (front ++ token ∷ [])) (before ++ role ∷ [])
  pub passes : PassesLimit before role

-- what a first fault says of a text
abbrev pub DescribesFault : List ℕ → Option StmtFault → Type 0
DescribesFault text None = IsWritten text
DescribesFault text (Some (because.Form column)) = IsFormFaultAt text column ⊎ IsFormFaultAtEnd text column
DescribesFault text (Some (because.Limit column)) = IsLimitFaultAt text column
DescribesFault text (Some because.NoMemory) = ⊥
