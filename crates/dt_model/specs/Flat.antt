-- The schema `flat`, which is number 0 in valid declarations.
use Rattle.std.specs.Prelude.{ℕ, Bool, true, false, List, [], ◌∷◌, ◌==◌, ◌&&◌, nat_eq, codes}
use Rattle.std.specs.Cmp.Lexicographic.{pointwise}
use Rattle.dt_model.specs.declared.declared_tensors.Kind.{Kind}
use Rattle.dt_model.specs.declared.declared_tensors.Links.{Links}
use Rattle.dt_model.specs.declared.declared_tensors.Links.TheVariants.{Flat, Post, Ends, Woven}
use Rattle.dt_model.specs.declared.declared_tensors.Schema.{Schema}
use Rattle.dt_model.specs.declared.limits.TheConstants.{FLAT_RUN}

-- its name, and that of its kind
abbrev pub flat_name : List ℕ
flat_name = codes "flat"

-- its kind, without links; its bounds are written, and hold for no run
abbrev pub flat_kind : Kind
flat_kind = record { name = flat_name; lo = 1; hi = FLAT_RUN; links = Flat }

-- the schema: this kind alone
abbrev pub flat_schema : Schema
flat_schema = record { name = flat_name; kinds = record { items = flat_kind ∷ [] }; root = flat_name }

-- whether links are none
abbrev pub is_unlinked : Links → Bool
is_unlinked Flat = true
is_unlinked (Post name) = false
is_unlinked (Ends pre post) = false
is_unlinked Woven = false

-- whether a kind is the flat one
abbrev pub is_flat_kind : Kind → Bool
is_flat_kind k = pointwise nat_eq k.name flat_name && (k.lo == 1) && (k.hi == FLAT_RUN) && is_unlinked k.links

-- whether kinds are the flat one alone
abbrev pub are_flat_kinds : List Kind → Bool
are_flat_kinds (k ∷ []) = is_flat_kind k
are_flat_kinds ks = false

-- whether a schema is `flat`
abbrev pub is_flat : Schema → Bool
is_flat s = pointwise nat_eq s.name flat_name && are_flat_kinds s.kinds.items && pointwise nat_eq s.root flat_name

-- whether schema number 0 is `flat`
abbrev pub begins_with_flat : List Schema → Bool
begins_with_flat [] = false
begins_with_flat (s ∷ ss) = is_flat s
