-- What has been read of a schema file: the table and the draft step from token to token.
use Rattle.std.proofs.Common.{◌≡◌, ◌++◌, true, List, [], ◌∷◌, Option, Some, None}
use Rattle.std.specs.Option.{option_and_then}
use Rattle.std.specs.List.{flat_map, list_all}
use Rattle.schema_read.specs.declared.lexer.Token.{Token}
use Rattle.schema_read.specs.declared.lexer.Token.TheVariants as a
use Rattle.schema_read.specs.declared.roles.Place.{Place}
use Rattle.schema_read.specs.declared.roles.Place.TheVariants as at
use Rattle.schema_read.specs.declared.roles.Role.{Role}
use Rattle.schema_read.specs.declared.draft.Draft.{Draft}
use Rattle.schema_read.specs.Roles.{role_of}
use Rattle.schema_read.specs.Building.{with_role}
use Rattle.schema_read.specs.Grammar.{kind_tokens, file_tokens, can_be_written, are_linked, has_kind}

-- ---- runs

-- the place and the draft behind a token of a role
abbrev pub go : Draft → Option (Role × Place) → Option (Place × Draft)
go d None = None
go d (Some r) = Some (r.1, with_role d r.0)

-- the place and the draft behind some more tokens
abbrev pub run : Place → Draft → List Token → Option (Place × Draft)
run p d [] = Some (p, d)
run p d (t ∷ ts) = option_and_then (λ u. run u.0 u.1 ts) (go d (role_of p t))

-- ---- the tokens that a draft stands for

-- up to the kinds of the schema in front
abbrev pub schema_head : Draft → List Token
schema_head d = file_tokens d.schemas ++ a.Schema ∷ a.Name d.name ∷ a.Open ∷ flat_map kind_tokens d.kinds.items

-- up to a place
abbrev pub held : Place → Draft → List Token
held at.Outside d = file_tokens d.schemas
held at.SchemaName d = file_tokens d.schemas ++ a.Schema ∷ []
held at.SchemaOpen d = file_tokens d.schemas ++ a.Schema ∷ a.Name d.name ∷ []
held at.FirstNode d = schema_head d
held at.NextNode d = schema_head d
held at.KindName d = schema_head d ++ a.Node ∷ []
held at.KindOpen d = schema_head d ++ a.Node ∷ a.Name d.kind ∷ []
held at.Run d = schema_head d ++ a.Node ∷ a.Name d.kind ∷ a.Open ∷ []
held at.Low d = schema_head d ++ a.Node ∷ a.Name d.kind ∷ a.Open ∷ a.Run ∷ []
held at.Points d = schema_head d ++ a.Node ∷ a.Name d.kind ∷ a.Open ∷ a.Run ∷ a.Number d.lo ∷ []
held at.High d = schema_head d ++ a.Node ∷ a.Name d.kind ∷ a.Open ∷ a.Run ∷ a.Number d.lo ∷ a.Points ∷ []
held at.Links d = schema_head d ++ a.Node ∷ a.Name d.kind ∷ a.Open ∷ a.Run ∷ a.Number d.lo ∷ a.Points ∷ a.Number d.hi ∷ []
held at.Post d = schema_head d ++ a.Node ∷ a.Name d.kind ∷ a.Open ∷ a.Run ∷ a.Number d.lo ∷ a.Points ∷ a.Number d.hi ∷ a.Post ∷ []
held at.Pre d = schema_head d ++ a.Node ∷ a.Name d.kind ∷ a.Open ∷ a.Run ∷ a.Number d.lo ∷ a.Points ∷ a.Number d.hi ∷ a.Pre ∷ []
held at.AfterPre d =
    schema_head d ++ a.Node ∷ a.Name d.kind ∷ a.Open ∷ a.Run ∷ a.Number d.lo ∷ a.Points ∷ a.Number d.hi ∷ a.Pre ∷ a.Name d.pre ∷ []
held at.EndsPost d =
    schema_head d ++ a.Node ∷ a.Name d.kind ∷ a.Open ∷ a.Run ∷ a.Number d.lo ∷ a.Points ∷ a.Number d.hi ∷ a.Pre ∷ a.Name d.pre ∷ a.Post ∷ []
held at.KindClose d = schema_head d
held at.RootName d = schema_head d ++ a.Root ∷ []
held at.SchemaClose d = file_tokens d.schemas

-- tokens are those of a draft at a place: before the brace that ends a kind or a schema, the draft has the brace, too
abbrev pub Holds : Place → Draft → List Token → Type 0
Holds at.KindClose d ts = ts ++ a.Close ∷ [] ≡ schema_head d
Holds at.SchemaClose d ts = ts ++ a.Close ∷ [] ≡ file_tokens d.schemas
Holds p d ts = ts ≡ held p d

-- ---- drafts that a file can have

-- its schemas can be written, and it has no kinds yet
pub record IsBare (d : Draft) : Type 0 where
  pub each : list_all can_be_written d.schemas ≡ true
  pub none : d.kinds.items ≡ []

-- its schemas can be written, and none of its kinds is flat
pub record IsInside (d : Draft) : Type 0 where
  pub each : list_all can_be_written d.schemas ≡ true
  pub linked : are_linked d.kinds.items ≡ true

-- so, and it has a kind
pub record HasKinds (d : Draft) : Type 0 where
  pub inside : IsInside d
  pub some : has_kind d.kinds.items ≡ true

-- what is known of a draft at a place
abbrev pub IsGood : Place → Draft → Type 0
IsGood at.Outside d = IsBare d
IsGood at.SchemaName d = IsBare d
IsGood at.SchemaOpen d = IsBare d
IsGood at.FirstNode d = IsBare d
IsGood at.NextNode d = HasKinds d
IsGood at.KindClose d = HasKinds d
IsGood at.RootName d = HasKinds d
IsGood at.SchemaClose d = IsBare d
IsGood p d = IsInside d
