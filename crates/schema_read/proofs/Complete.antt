-- Schemas as they are written are read, and in one way.
use Rattle.std.proofs.Common.{◌≡◌, ℕ, ◌++◌, true, not, List, [], ◌∷◌, refl, ap, sym, ◌∙◌}
use Rattle.std.specs.Prelude.{◌&&◌}
use Rattle.std.specs.List.{flat_map, list_all}
use Rattle.std.proofs.lemmas.List.{append_assoc, append-nil}
use Rattle.dt_model.specs.declared.declared_tensors.Links.{Links}
use Rattle.dt_model.specs.declared.declared_tensors.Links.TheVariants as link
use Rattle.dt_model.specs.declared.declared_tensors.Kind.{Kind}
use Rattle.dt_model.specs.declared.declared_tensors.Schema.{Schema}
use Rattle.dt_model.specs.Flat.{is_unlinked}
use Rattle.dt_model.proofs.Booleans.{both_true}
use Rattle.schema_read.specs.declared.lexer.Token.{Token}
use Rattle.schema_read.specs.declared.lexer.Token.TheVariants as a
use Rattle.schema_read.specs.declared.roles.Place.TheVariants as at
use Rattle.schema_read.specs.declared.draft.Draft.{Draft}
use Rattle.schema_read.specs.Building.{with_kind, with_schema}
use Rattle.schema_read.specs.Grammar.{links_tokens, kind_tokens, schema_tokens, file_tokens, can_be_written, are_linked, has_kind}
use Rattle.schema_read.proofs.Machine.{run}

-- ---- kinds

-- what is kept of the first link, where there are two
abbrev first_link : List ℕ → Links → List ℕ
first_link pre (link.Ends p post) = p
first_link pre l = pre

-- behind a kind
abbrev pub after_kind : Draft → Kind → Draft
after_kind d k = with_kind (record d { kind = k.name; lo = k.lo; hi = k.hi; pre = first_link d.pre k.links }) k.links

-- behind some kinds
abbrev pub after_kinds : Draft → List Kind → Draft
after_kinds d [] = d
after_kinds d (k ∷ ks) = after_kinds (after_kind d k) ks

links_run : (l : Links) (d : Draft) (ts : List Token) → not (is_unlinked l) ≡ true
    → run at.Links d ((links_tokens l ++ a.Close ∷ []) ++ ts) ≡ run at.NextNode (with_kind (record d { pre = first_link d.pre l }) l) ts
links_run link.Flat d ts e = absurd (cc)
links_run (link.Post p) d ts e = refl
links_run (link.Ends p q) d ts e = refl
links_run link.Woven d ts e = refl

-- a kind is read, the first one or another
kind_run : (k : Kind) (d : Draft) (ts : List Token) → not (is_unlinked k.links) ≡ true
    → run at.NextNode d (kind_tokens k ++ ts) ≡ run at.NextNode (after_kind d k) ts
kind_run k d ts e = links_run k.links (record d { kind = k.name; lo = k.lo; hi = k.hi }) ts e

first_kind_run : (k : Kind) (d : Draft) (ts : List Token) → not (is_unlinked k.links) ≡ true
    → run at.FirstNode d (kind_tokens k ++ ts) ≡ run at.NextNode (after_kind d k) ts
first_kind_run k d ts e = links_run k.links (record d { kind = k.name; lo = k.lo; hi = k.hi }) ts e

kinds_run : (ks : List Kind) (d : Draft) (ts : List Token) → are_linked ks ≡ true
    → run at.NextNode d (flat_map kind_tokens ks ++ ts) ≡ run at.NextNode (after_kinds d ks) ts
kinds_run [] d ts e = refl
kinds_run (k ∷ ks) d ts e =
    let both = both_true (not (is_unlinked k.links)) (are_linked ks) e in
    ap (run at.NextNode d) (append_assoc (kind_tokens k) (flat_map kind_tokens ks) ts)
    ∙ kind_run k d (flat_map kind_tokens ks ++ ts) both.0
    ∙ kinds_run ks (after_kind d k) ts both.1

all_kinds_run : (ks : List Kind) (d : Draft) (ts : List Token) → (has_kind ks && are_linked ks) ≡ true
    → run at.FirstNode d (flat_map kind_tokens ks ++ ts) ≡ run at.NextNode (after_kinds d ks) ts
all_kinds_run [] d ts e = absurd (cc)
all_kinds_run (k ∷ ks) d ts e =
    let both = both_true (not (is_unlinked k.links)) (are_linked ks) e in
    ap (run at.FirstNode d) (append_assoc (kind_tokens k) (flat_map kind_tokens ks) ts)
    ∙ first_kind_run k d (flat_map kind_tokens ks ++ ts) both.0
    ∙ kinds_run ks (after_kind d k) ts both.1

-- ---- schemas

-- behind a schema
abbrev pub after_schema : Draft → Schema → Draft
after_schema d s = with_schema (after_kinds (record d { name = s.name }) s.kinds.items) s.root

-- behind some schemas
abbrev pub after_schemas : Draft → List Schema → Draft
after_schemas d [] = d
after_schemas d (s ∷ ss) = after_schemas (after_schema d s) ss

schema_run : (s : Schema) (d : Draft) (ts : List Token) → can_be_written s ≡ true
    → run at.Outside d (schema_tokens s ++ ts) ≡ run at.Outside (after_schema d s) ts
schema_run s d ts e =
    let e1 : Draft = record d { name = s.name } in
    ap (run at.FirstNode e1) (append_assoc (flat_map kind_tokens s.kinds.items) (a.Root ∷ a.Name s.root ∷ a.Close ∷ []) ts)
    ∙ all_kinds_run s.kinds.items e1 (a.Root ∷ a.Name s.root ∷ a.Close ∷ ts) e

-- schemas are read, whatever follows
pub file_run : (ss : List Schema) (d : Draft) (ts : List Token) → list_all can_be_written ss ≡ true
    → run at.Outside d (file_tokens ss ++ ts) ≡ run at.Outside (after_schemas d ss) ts
file_run [] d ts e = refl
file_run (s ∷ ss) d ts e =
    let both = both_true (can_be_written s) (list_all can_be_written ss) e in
    ap (run at.Outside d) (append_assoc (schema_tokens s) (file_tokens ss) ts)
    ∙ schema_run s d (file_tokens ss ++ ts) both.0
    ∙ file_run ss (after_schema d s) ts both.1

-- ---- what is then in the draft

kinds_of-after : (ks : List Kind) (d : Draft) → (after_kinds d ks).kinds.items ≡ d.kinds.items ++ ks
kinds_of-after [] d = sym (append-nil d.kinds.items)
kinds_of-after (k ∷ ks) d = kinds_of-after ks (after_kind d k) ∙ append_assoc d.kinds.items (k ∷ []) ks

name_of-after : (ks : List Kind) (d : Draft) → (after_kinds d ks).name ≡ d.name
name_of-after [] d = refl
name_of-after (k ∷ ks) d = name_of-after ks (after_kind d k)

schemas_of-after : (ks : List Kind) (d : Draft) → (after_kinds d ks).schemas ≡ d.schemas
schemas_of-after [] d = refl
schemas_of-after (k ∷ ks) d = schemas_of-after ks (after_kind d k)

one_more : (s : Schema) (d : Draft) → d.kinds.items ≡ [] → (after_schema d s).schemas ≡ d.schemas ++ s ∷ []
one_more s d e =
    let e1 : Draft = record d { name = s.name } in
    let kinds : (after_kinds e1 s.kinds.items).kinds.items ≡ s.kinds.items = kinds_of-after s.kinds.items e1 ∙ ap (λ ks. ks ++ s.kinds.items) e in
    let made : List Kind → Schema = λ ks. record { name = s.name; kinds = record { items = ks }; root = s.root } in
    rw (schemas_of-after s.kinds.items e1, name_of-after s.kinds.items e1) (ap (λ ks. d.schemas ++ made ks ∷ []) kinds)

-- the schemas are the ones that were written
pub schemas_of-after_schemas : (ss : List Schema) (d : Draft) → d.kinds.items ≡ [] → (after_schemas d ss).schemas ≡ d.schemas ++ ss
schemas_of-after_schemas [] d e = sym (append-nil d.schemas)
schemas_of-after_schemas (s ∷ ss) d e =
    schemas_of-after_schemas ss (after_schema d s) refl ∙ ap (λ r. r ++ ss) (one_more s d e) ∙ append_assoc d.schemas (s ∷ []) ss
