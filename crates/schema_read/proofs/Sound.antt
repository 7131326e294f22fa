-- Each step holds its token.
use Rattle.std.proofs.Common.{◌++◌, List, [], ◌∷◌, refl, ap}
use Rattle.std.specs.Prelude.{IfSome}
use Rattle.dt_model.specs.declared.declared_tensors.Links.TheVariants as link
use Rattle.schema_read.specs.declared.lexer.Token.{Token}
use Rattle.schema_read.specs.declared.lexer.Token.TheVariants as a
use Rattle.schema_read.specs.declared.roles.Place.{Place}
use Rattle.schema_read.specs.declared.roles.Place.TheVariants as at
use Rattle.schema_read.specs.declared.draft.Draft.{Draft}
use Rattle.schema_read.specs.Roles.{role_of}
use Rattle.schema_read.specs.Grammar.{file_tokens}
use Rattle.schema_read.proofs.Machine.{go, schema_head, Holds, IsGood}
use Rattle.schema_read.proofs.Parts.{more, ends_kind, ends_schema, begins_kinds, more_kinds, more_schemas, bare_inside}

-- ---- steps

-- what is known behind some tokens
pub record Stands (p : Place) (d : Draft) (ts : List Token) : Type 0 where
  pub good : IsGood p d
  pub holds : Holds p d ts

-- what is known behind one more
abbrev StandsAfter : List Token → Place × Draft → Type 0
StandsAfter ts u = Stands u.0 u.1 ts

-- a step holds its token
pub go-stands : (p : Place) (t : Token) (d : Draft) (ts : List Token) → Stands p d ts → IfSome (go d (role_of p t)) (StandsAfter (ts ++ t ∷ []))
go-stands at.Outside a.Schema d ts h = record { good = record { each = h.good.each; none = h.good.none }; holds = ap (λ y. y ++ a.Schema ∷ []) h.holds }
go-stands at.SchemaName (a.Name n) d ts h =
    record { good = record { each = h.good.each; none = h.good.none }; holds = more (file_tokens d.schemas) (a.Schema ∷ []) ts (a.Name n) h.holds }
go-stands at.SchemaOpen a.Open d ts h = record { good = h.good; holds = begins_kinds d ts h.good.none h.holds }
go-stands at.FirstNode a.Node d ts h = record { good = bare_inside d h.good; holds = ap (λ y. y ++ a.Node ∷ []) h.holds }
go-stands at.NextNode a.Node d ts h = record { good = h.good.inside; holds = ap (λ y. y ++ a.Node ∷ []) h.holds }
go-stands at.NextNode a.Root d ts h = record { good = h.good; holds = ap (λ y. y ++ a.Root ∷ []) h.holds }
go-stands at.KindName (a.Name n) d ts h =
    record { good = record { each = h.good.each; linked = h.good.linked }; holds = more (schema_head d) (a.Node ∷ []) ts (a.Name n) h.holds }
go-stands at.KindOpen a.Open d ts h = record { good = h.good; holds = more (schema_head d) (a.Node ∷ a.Name d.kind ∷ []) ts a.Open h.holds }
go-stands at.Run a.Run d ts h = record { good = h.good; holds = more (schema_head d) (a.Node ∷ a.Name d.kind ∷ a.Open ∷ []) ts a.Run h.holds }
go-stands at.Low (a.Number n) d ts h = record {
  good = record { each = h.good.each; linked = h.good.linked };
  holds = more (schema_head d) (a.Node ∷ a.Name d.kind ∷ a.Open ∷ a.Run ∷ []) ts (a.Number n) h.holds;
}
go-stands at.Points a.Points d ts h =
    record { good = h.good; holds = more (schema_head d) (a.Node ∷ a.Name d.kind ∷ a.Open ∷ a.Run ∷ a.Number d.lo ∷ []) ts a.Points h.holds }
go-stands at.High (a.Number n) d ts h = record {
  good = record { each = h.good.each; linked = h.good.linked };
  holds = more (schema_head d) (a.Node ∷ a.Name d.kind ∷ a.Open ∷ a.Run ∷ a.Number d.lo ∷ a.Points ∷ []) ts (a.Number n) h.holds;
}
go-stands at.Links a.Post d ts h = record {
  good = h.good;
  holds = more (schema_head d) (a.Node ∷ a.Name d.kind ∷ a.Open ∷ a.Run ∷ a.Number d.lo ∷ a.Points ∷ a.Number d.hi ∷ []) ts a.Post h.holds;
}
go-stands at.Links a.Pre d ts h = record {
  good = h.good;
  holds = more (schema_head d) (a.Node ∷ a.Name d.kind ∷ a.Open ∷ a.Run ∷ a.Number d.lo ∷ a.Points ∷ a.Number d.hi ∷ []) ts a.Pre h.holds;
}
go-stands at.Links a.Woven d ts h = record {
  good = more_kinds d link.Woven refl h.good;
  holds = ends_kind d link.Woven (a.Node ∷ a.Name d.kind ∷ a.Open ∷ a.Run ∷ a.Number d.lo ∷ a.Points ∷ a.Number d.hi ∷ []) ts a.Woven h.holds refl;
}
go-stands at.Post (a.Name n) d ts h = record {
  good = more_kinds d (link.Post n) refl h.good;
  holds = ends_kind d (link.Post n) (a.Node ∷ a.Name d.kind ∷ a.Open ∷ a.Run ∷ a.Number d.lo ∷ a.Points ∷ a.Number d.hi ∷ a.Post ∷ []) ts (a.Name n)
      h.holds refl;
}
go-stands at.Pre (a.Name n) d ts h = record {
  good = record { each = h.good.each; linked = h.good.linked };
  holds = more (schema_head d) (a.Node ∷ a.Name d.kind ∷ a.Open ∷ a.Run ∷ a.Number d.lo ∷ a.Points ∷ a.Number d.hi ∷ a.Pre ∷ []) ts (a.Name n) h.holds;
}
go-stands at.AfterPre a.Post d ts h = record {
  good = h.good;
  holds = more (schema_head d) (a.Node ∷ a.Name d.kind ∷ a.Open ∷ a.Run ∷ a.Number d.lo ∷ a.Points ∷ a.Number d.hi ∷ a.Pre ∷ a.Name d.pre ∷ []) ts
      a.Post h.holds;
}
go-stands at.EndsPost (a.Name n) d ts h = record {
  good = more_kinds d (link.Ends d.pre n) refl h.good;
  holds = ends_kind d (link.Ends d.pre n)
      (a.Node ∷ a.Name d.kind ∷ a.Open ∷ a.Run ∷ a.Number d.lo ∷ a.Points ∷ a.Number d.hi ∷ a.Pre ∷ a.Name d.pre ∷ a.Post ∷ []) ts (a.Name n) h.holds refl;
}
go-stands at.KindClose a.Close d ts h = record { good = h.good; holds = h.holds }
go-stands at.RootName (a.Name n) d ts h = record { good = more_schemas d n h.good; holds = ends_schema d n ts h.holds }
go-stands at.SchemaClose a.Close d ts h = record { good = h.good; holds = h.holds }
go-stands p t d ts h = tt
