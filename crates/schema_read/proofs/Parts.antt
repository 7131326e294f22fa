-- One more token, kind or schema of a draft.
use Rattle.std.proofs.Common.{◌≡◌, ℕ, ◌++◌, true, not, List, [], ◌∷◌, refl, ap, sym, ◌∙◌}
use Rattle.std.specs.List.{flat_map, list_all}
use Rattle.std.proofs.lemmas.List.{append_assoc, append-nil}
use Rattle.std.proofs.lemmas.Grind.{flat_map-append}
use Rattle.dt_model.specs.declared.declared_tensors.Links.{Links}
use Rattle.dt_model.specs.declared.declared_tensors.Kind.{Kind}
use Rattle.dt_model.specs.declared.declared_tensors.Schema.{Schema}
use Rattle.dt_model.specs.Flat.{is_unlinked}
use Rattle.dt_model.proofs.Booleans.{list_all-append, true_both}
use Rattle.schema_read.specs.declared.lexer.Token.{Token}
use Rattle.schema_read.specs.declared.lexer.Token.TheVariants as a
use Rattle.schema_read.specs.declared.draft.Draft.{Draft}
use Rattle.schema_read.specs.Building.{with_kind, with_schema}
use Rattle.schema_read.specs.Grammar.{kind_tokens, schema_tokens, file_tokens, can_be_written, are_linked, has_kind}
use Rattle.schema_read.proofs.Machine.{schema_head, IsBare, IsInside, HasKinds}

-- ---- tokens

-- one more token
pub more : (front xs ts : List Token) (t : Token) → ts ≡ front ++ xs → ts ++ t ∷ [] ≡ front ++ (xs ++ t ∷ [])
more front xs ts t h = ap (λ y. y ++ t ∷ []) h ∙ append_assoc front xs (t ∷ [])

-- the last of some parts
flat_map-last : {X A : Type 0} (f : X → List A) (xs : List X) (x : X) → flat_map f (xs ++ x ∷ []) ≡ flat_map f xs ++ f x
flat_map-last f xs x = flat_map-append f xs (x ∷ []) ∙ ap (λ r. flat_map f xs ++ r) (append-nil (f x))

-- one more kind
pub schema_head-kind : (d : Draft) (l : Links)
    → schema_head (with_kind d l) ≡ schema_head d ++ kind_tokens (record { name = d.kind; lo = d.lo; hi = d.hi; links = l })
schema_head-kind d l =
    let k : Kind = record { name = d.kind; lo = d.lo; hi = d.hi; links = l } in
    ap (λ r. file_tokens d.schemas ++ a.Schema ∷ a.Name d.name ∷ a.Open ∷ r) (flat_map-last kind_tokens d.kinds.items k)
    ∙ sym (append_assoc (file_tokens d.schemas) (a.Schema ∷ a.Name d.name ∷ a.Open ∷ flat_map kind_tokens d.kinds.items) (kind_tokens k))

-- one more schema
pub file_tokens-schema : (d : Draft) (root : List ℕ) → file_tokens (with_schema d root).schemas ≡ schema_head d ++ a.Root ∷ a.Name root ∷ a.Close ∷ []
file_tokens-schema d root =
    let s : Schema = record { name = d.name; kinds = d.kinds; root = root } in
    flat_map-last schema_tokens d.schemas s
    ∙ sym (append_assoc (file_tokens d.schemas) (a.Schema ∷ a.Name d.name ∷ a.Open ∷ flat_map kind_tokens d.kinds.items) (a.Root ∷ a.Name root ∷ a.Close ∷ []))

-- a kind ends with a token, and its brace follows
pub ends_kind : (d : Draft) (l : Links) (xs ts : List Token) (t : Token) → ts ≡ schema_head d ++ xs
    → (xs ++ t ∷ []) ++ a.Close ∷ [] ≡ kind_tokens (record { name = d.kind; lo = d.lo; hi = d.hi; links = l })
    → (ts ++ t ∷ []) ++ a.Close ∷ [] ≡ schema_head (with_kind d l)
ends_kind d l xs ts t h e =
    more (schema_head d) (xs ++ t ∷ []) (ts ++ t ∷ []) a.Close (more (schema_head d) xs ts t h)
    ∙ ap (λ r. schema_head d ++ r) e ∙ sym (schema_head-kind d l)

-- a schema ends with its root, and its brace follows
pub ends_schema : (d : Draft) (root : List ℕ) (ts : List Token) → ts ≡ schema_head d ++ a.Root ∷ []
    → (ts ++ a.Name root ∷ []) ++ a.Close ∷ [] ≡ file_tokens (with_schema d root).schemas
ends_schema d root ts h =
    more (schema_head d) (a.Root ∷ a.Name root ∷ []) (ts ++ a.Name root ∷ []) a.Close (more (schema_head d) (a.Root ∷ []) ts (a.Name root) h)
    ∙ sym (file_tokens-schema d root)

-- a schema's kinds begin
pub begins_kinds : (d : Draft) (ts : List Token) → d.kinds.items ≡ [] → ts ≡ file_tokens d.schemas ++ a.Schema ∷ a.Name d.name ∷ []
    → ts ++ a.Open ∷ [] ≡ schema_head d
begins_kinds d ts e h =
    more (file_tokens d.schemas) (a.Schema ∷ a.Name d.name ∷ []) ts a.Open h
    ∙ ap (λ ks. file_tokens d.schemas ++ a.Schema ∷ a.Name d.name ∷ a.Open ∷ flat_map kind_tokens ks) (sym e)

-- ---- drafts

has_kind-last : (ks : List Kind) (k : Kind) → has_kind (ks ++ k ∷ []) ≡ true
has_kind-last [] k = refl
has_kind-last (x ∷ xs) k = refl

-- one more kind, which isn't flat
pub more_kinds : (d : Draft) (l : Links) → not (is_unlinked l) ≡ true → IsInside d → HasKinds (with_kind d l)
more_kinds d l e g =
    let k : Kind = record { name = d.kind; lo = d.lo; hi = d.hi; links = l } in
    let one : are_linked (k ∷ []) ≡ true = rw e refl in
    record {
      inside = record { each = g.each; linked = list_all-append (λ k. not (is_unlinked k.links)) d.kinds.items (k ∷ []) g.linked one };
      some = has_kind-last d.kinds.items k;
    }

-- one more schema
pub more_schemas : (d : Draft) (root : List ℕ) → HasKinds d → IsBare (with_schema d root)
more_schemas d root g =
    let s : Schema = record { name = d.name; kinds = d.kinds; root = root } in
    let can : can_be_written s ≡ true = true_both (has_kind d.kinds.items) (are_linked d.kinds.items) g.some g.inside.linked in
    let one : list_all can_be_written (s ∷ []) ≡ true = rw can refl in
    record { each = list_all-append can_be_written d.schemas (s ∷ []) g.inside.each one; none = refl }

-- no kinds, none of which is flat
pub bare_inside : (d : Draft) → IsBare d → IsInside d
bare_inside d g = record { each = g.each; linked = ap are_linked g.none }
