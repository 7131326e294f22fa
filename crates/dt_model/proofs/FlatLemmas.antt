-- What the test for the schema `flat` says.
use Rattle.std.proofs.Common.{◌≡◌, ℕ, true, List, [], ◌∷◌, refl, ap, sym, Some, arith}
use Rattle.std.specs.Prelude.{slice_get, ◌==◌, nat_eq}
use Rattle.std.specs.Cmp.Lexicographic.{pointwise, same_text}
use Rattle.std.proofs.lemmas.Bool.Decides.{nat_tests}
use Rattle.dt_model.specs.declared.declared_tensors.Kind.{Kind}
use Rattle.dt_model.specs.declared.declared_tensors.Links.{Links}
use Rattle.dt_model.specs.declared.declared_tensors.Links.TheVariants.{Flat, Post, Ends, Woven}
use Rattle.dt_model.specs.declared.declared_tensors.Schema.{Schema}
use Rattle.dt_model.specs.declared.limits.TheConstants.{FLAT_RUN}
use Rattle.dt_model.specs.Flat.{flat_name, flat_kind, flat_schema, is_unlinked, is_flat_kind, are_flat_kinds, is_flat, begins_with_flat}
use Rattle.dt_model.proofs.Booleans.{both_true}

is_text : (xs : List ℕ) → pointwise nat_eq xs flat_name ≡ true → xs ≡ flat_name
is_text xs e = same_text xs flat_name (sym e)

same_number : (a b : ℕ) → (a == b) ≡ true → a ≡ b
same_number a b t = grind (arith, nat_tests)

-- no links are flat links
pub is_unlinked-true : (l : Links) → is_unlinked l ≡ true → l ≡ Flat
is_unlinked-true Flat e = refl
is_unlinked-true (Post name) e = absurd (cc)
is_unlinked-true (Ends pre post) e = absurd (cc)
is_unlinked-true Woven e = absurd (cc)

-- a kind that passes the test is the flat one
pub is_flat_kind-true : (k : Kind) → is_flat_kind k ≡ true → k ≡ flat_kind
is_flat_kind-true k e =
    let links = both_true _ (is_unlinked k.links) e in
    let hi = both_true _ (k.hi == FLAT_RUN) links.0 in
    let lo = both_true (pointwise nat_eq k.name flat_name) (k.lo == 1) hi.0 in
    rw (is_text k.name lo.0, same_number k.lo 1 lo.1, same_number k.hi FLAT_RUN hi.1, is_unlinked-true k.links links.1) refl

-- a schema that passes the test is `flat`
pub is_flat-true : (s : Schema) → is_flat s ≡ true → s ≡ flat_schema
is_flat-true s e =
    let root = both_true _ (pointwise nat_eq s.root flat_name) e in
    let kinds = both_true (pointwise nat_eq s.name flat_name) (are_flat_kinds s.kinds.items) root.0 in
    rw (is_text s.name kinds.0, is_text s.root root.1, one_kind s.kinds.items kinds.1) refl
  where
    one_kind : (ks : List Kind) → are_flat_kinds ks ≡ true → ks ≡ flat_kind ∷ []
    one_kind [] h = absurd (cc)
    one_kind (k ∷ []) h = ap (λ x. x ∷ []) (is_flat_kind-true k h)
    one_kind (k ∷ l ∷ ls) h = absurd (cc)

-- where the test passes, schema number 0 is `flat`
pub begins_with_flat-true : (ss : List Schema) → begins_with_flat ss ≡ true → slice_get ss 0 ≡ Some flat_schema
begins_with_flat-true [] e = absurd (cc)
begins_with_flat-true (s ∷ ss) e = ap Some (is_flat-true s e)
