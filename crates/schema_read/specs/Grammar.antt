-- Schema files as they are written.
use Rattle.std.specs.Prelude.{ℕ, ◌≡◌, ◌&&◌, Bool, true, false, not, List, [], ◌∷◌, ◌++◌}
use Rattle.std.specs.List.{flat_map, list_all}
use Rattle.dt_model.specs.declared.declared_tensors.Links.{Links}
use Rattle.dt_model.specs.declared.declared_tensors.Links.TheVariants as link
use Rattle.dt_model.specs.declared.declared_tensors.Kind.{Kind}
use Rattle.dt_model.specs.declared.declared_tensors.Schema.{Schema}
use Rattle.dt_model.specs.Flat.{is_unlinked}
use Rattle.schema_read.specs.declared.lexer.Token.{Token}
use Rattle.schema_read.specs.declared.lexer.Token.TheVariants as a
use Rattle.schema_read.specs.Tokens.{tokens_of}

-- the tokens of links; a flat kind, which no file has, would have none
abbrev pub links_tokens : Links → List Token
links_tokens link.Flat = []
links_tokens (link.Post post) = a.Post ∷ a.Name post ∷ []
links_tokens (link.Ends pre post) = a.Pre ∷ a.Name pre ∷ a.Post ∷ a.Name post ∷ []
links_tokens link.Woven = a.Woven ∷ []

-- the tokens of a kind
abbrev pub kind_tokens : Kind → List Token
kind_tokens k = a.Node ∷ a.Name k.name ∷ a.Open ∷ a.Run ∷ a.Number k.lo ∷ a.Points ∷ a.Number k.hi ∷ (links_tokens k.links ++ a.Close ∷ [])

-- the tokens of a schema
abbrev pub schema_tokens : Schema → List Token
schema_tokens s = a.Schema ∷ a.Name s.name ∷ a.Open ∷ (flat_map kind_tokens s.kinds.items ++ a.Root ∷ a.Name s.root ∷ a.Close ∷ [])

-- the tokens of schemas, one after the other
abbrev pub file_tokens : List Schema → List Token
file_tokens ss = flat_map schema_tokens ss

-- whether no kind is flat
abbrev pub are_linked : List Kind → Bool
are_linked ks = list_all (λ k. not (is_unlinked k.links)) ks

-- whether a list has a kind
abbrev pub has_kind : List Kind → Bool
has_kind [] = false
has_kind (k ∷ ks) = true

-- whether a file can have a schema: it has a kind, and none is flat
abbrev pub can_be_written : Schema → Bool
can_be_written s = has_kind s.kinds.items && are_linked s.kinds.items

-- the text is a schema file with these schemas in order
pub record SchemaFile (text : List ℕ) (schemas : List Schema) : Type 0 where
  pub written : tokens_of text ≡ file_tokens schemas
  pub each : list_all can_be_written schemas ≡ true

-- tokens with which a schema file begins
pub record Begins (ts : List Token) : Type 0 where
  pub schemas : List Schema
  pub more : List Token
  pub is : ts ++ more ≡ file_tokens schemas
  pub each : list_all can_be_written schemas ≡ true
