-- The schemas that the roles of tokens build from left to right.
use Rattle.std.specs.Prelude.{⊤, ℕ, ◌<◌, List, [], ◌∷◌, ◌++◌, length}
use Rattle.dt_model.specs.declared.limits.TheConstants.{MOST_KINDS, UNDERSCORE}
use Rattle.dt_model.specs.declared.declared_tensors.Links.{Links}
use Rattle.dt_model.specs.declared.declared_tensors.Links.TheVariants as link
use Rattle.dt_model.specs.declared.declared_tensors.Kind.{Kind}
use Rattle.schema_read.specs.declared.draft.Draft.{Draft}
use Rattle.schema_read.specs.declared.roles.Role.{Role}
use Rattle.schema_read.specs.declared.roles.Role.TheVariants as the

-- nothing has been read
abbrev pub no_draft : Draft
no_draft = record { schemas = []; name = UNDERSCORE ∷ []; kinds = record { items = [] }; kind = UNDERSCORE ∷ []; lo = 0; hi = 0; pre = UNDERSCORE ∷ [] }

-- the kind in front has these links, and is one of the schema's
abbrev pub with_kind : Draft → Links → Draft
with_kind d links = record d { kinds = record { items = d.kinds.items ++ record { name = d.kind; lo = d.lo; hi = d.hi; links = links } ∷ [] } }

-- the schema in front has this root, and is one of the file's
abbrev pub with_schema : Draft → List ℕ → Draft
with_schema d root = record d { schemas = d.schemas ++ record { name = d.name; kinds = d.kinds; root = root } ∷ []; kinds = record { items = [] } }

-- one more token
abbrev pub with_role : Draft → Role → Draft
with_role d (the.SchemaName name) = record d { name = name }
with_role d (the.KindName name) = record d { kind = name }
with_role d (the.Low number) = record d { lo = number }
with_role d (the.High number) = record d { hi = number }
with_role d (the.Post post) = with_kind d (link.Post post)
with_role d (the.Pre pre) = record d { pre = pre }
with_role d (the.EndsPost post) = with_kind d (link.Ends d.pre post)
with_role d the.Woven = with_kind d link.Woven
with_role d (the.Root root) = with_schema d root
with_role d the.Mark = d

-- where a role ends a kind, the schema in front has room for it
abbrev pub HasRoom : Role → List Kind → Type 0
HasRoom (the.Post post) kinds = length kinds < MOST_KINDS
HasRoom (the.EndsPost post) kinds = length kinds < MOST_KINDS
HasRoom the.Woven kinds = length kinds < MOST_KINDS
HasRoom role kinds = ⊤
