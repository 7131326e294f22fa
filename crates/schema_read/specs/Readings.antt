-- What an answer says of a text, in the grammar's own words.
use Rattle.std.specs.Prelude.{⊤, ℕ, ◌≡◌, ◌⊎◌, ◌&&◌, Bool, List, [], ◌∷◌, ◌++◌, length, take, nat_le, None, IsSome, Result, Ok, Err}
use Rattle.std.specs.List.{list_all}
use Rattle.dt_model.specs.declared.limits.TheConstants.{MOST_SCHEMAS, MOST_KINDS}
use Rattle.dt_model.specs.declared.declared_tensors.Schema.{Schema}
use Rattle.dt_text.specs.declared.spans.Span.{Span}
use Rattle.schema_read.specs.declared.read.SchemaFault.{SchemaFault}
use Rattle.schema_read.specs.declared.read.SchemaFault.TheVariants as because
use Rattle.schema_read.specs.Tokens.{spans_of, tokens_in, tokens_of}
use Rattle.schema_read.specs.Places.{line_behind, column_behind, text_end}
use Rattle.schema_read.specs.Scans.{nothing, count_tokens}
use Rattle.schema_read.specs.Grammar.{SchemaFile, Begins}

-- the text is a schema file with these schemas, and no limit is passed
pub record ReadsAs (text : List ℕ) (schemas : List Schema) : Type 0 where
  pub file : SchemaFile text schemas
  pub within : IsSome (count_tokens nothing (tokens_of text))

-- the line and the column of a place in a text
pub record IsPlace (text : List ℕ) (place line column : ℕ) : Type 0 where
  pub line_is : line ≡ line_behind (take place text)
  pub column_is : column ≡ column_behind (take place text)

-- the tokens before this one begin a file within the limits, and with it they begin none
pub record IsFormFaultAt (text : List ℕ) (line column : ℕ) : Type 0 where
  pub front : List Span
  pub token : Span
  pub behind : List Span
  pub split : spans_of text ≡ front ++ token ∷ behind
  pub there : IsPlace text token.from line column
  pub begins : Begins (tokens_in text front)
  pub within : IsSome (count_tokens nothing (tokens_in text front))
  pub stops : Begins (tokens_in text (front ++ token ∷ [])) → ⊥

-- the tokens begin a file within the limits, and are none
pub record IsFormFaultAtEnd (text : List ℕ) (line column : ℕ) : Type 0 where
  pub there : IsPlace text (text_end text) line column
  pub begins : Begins (tokens_of text)
  pub within : IsSome (count_tokens nothing (tokens_of text))
  pub lacks : (schemas : List Schema) → SchemaFile text schemas → ⊥

-- a file may begin so, and this token is the first that passes a limit
pub record IsLimitFaultAt (text : List ℕ) (line column : ℕ) : Type 0 where
  pub front : List Span
  pub token : Span
  pub behind : List Span
  pub split : spans_of text ≡ front ++ token ∷ behind
  pub there : IsPlace text token.from line column
  pub begins : Begins (tokens_in text (front ++ token ∷ []))
  pub within : IsSome (count_tokens nothing (tokens_in text front))
  pub exceeds : count_tokens nothing (tokens_in text (front ++ token ∷ [])) ≡ None

-- what an answer says of a text
abbrev pub Reads : List ℕ → Result (List Schema) SchemaFault → Type 0
Reads text (Ok schemas) = ReadsAs text schemas
Reads text (Err (because.Form line column)) = IsFormFaultAt text line column ⊎ IsFormFaultAtEnd text line column
Reads text (Err (because.Limit line column)) = IsLimitFaultAt text line column
Reads text (Err because.NoMemory) = ⊤

-- schemas are answered, unless memory runs out
abbrev pub AnswersSchemas : List Schema → Result (List Schema) SchemaFault → Type 0
AnswersSchemas schemas (Ok given) = given ≡ schemas
AnswersSchemas schemas (Err (because.Form line column)) = ⊥
AnswersSchemas schemas (Err (because.Limit line column)) = ⊥
AnswersSchemas schemas (Err because.NoMemory) = ⊤

-- whether schemas, and the kinds of each, are no more than is allowed
abbrev pub are_small : List Schema → Bool
are_small ss = nat_le (length ss) MOST_SCHEMAS && list_all (λ s. nat_le (length s.kinds.items) MOST_KINDS) ss
