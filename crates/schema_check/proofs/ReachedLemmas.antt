-- Which kinds are reached: the test and the paths of links agree.
use Rattle.std.proofs.Common.{◌≡◌, ℕ, zero, suc, Bool, true, false, List, [], ◌∷◌, length, refl, ap, sym, ◌∙◌, subst, All}
use Rattle.std.specs.Prelude.{◌&&◌, ◌||◌, nat_eq}
use Rattle.std.specs.List.{list_all}
use Rattle.std.specs.Cmp.Lexicographic.{pointwise, same_text, nat_list_eq_equiv}
use Rattle.std.proofs.lemmas.List.Elements.{All-nil, All-cons, All-head, All-tail}
use Rattle.dt_model.specs.declared.declared_tensors.Kind.{Kind}
use Rattle.dt_model.specs.declared.declared_tensors.Schema.{Schema}
use Rattle.dt_model.proofs.Booleans.{both_true, true_both, list_all-weaker}
use Rattle.schema_check.specs.Links.{links_to, is_declared}
use Rattle.schema_check.specs.Reached.{is_link, IsPath, IsReached, is_linked_from, is_within, is_reached}
use Rattle.schema_check.proofs.Marks.{or_left, or_right, Agree-declared, is_within-zero, is_within-suc, is_within-more, within_all}

-- ---- links

-- a link to the name, from a name of the set
pub record LinkedFrom (kinds : List Kind) (set : List ℕ → Bool) (name : List ℕ) : Type 0 where
  pub from : List ℕ
  pub member : set from ≡ true
  pub link : is_link kinds from name ≡ true

-- what is linked from a set has a link from one of its names
pub is_linked_from-link : (kinds : List Kind) (set : List ℕ → Bool) (name : List ℕ) → is_linked_from kinds set name ≡ true → LinkedFrom kinds set name
is_linked_from-link [] set name h = absurd (cc)
is_linked_from-link (k ∷ kinds) set name h = step (set k.name && links_to k.links name) refl h (is_linked_from-link kinds set name)
  where
    step : (b : Bool) → (set k.name && links_to k.links name) ≡ b → (b || is_linked_from kinds set name) ≡ true
        → (is_linked_from kinds set name ≡ true → LinkedFrom kinds set name) → LinkedFrom (k ∷ kinds) set name
    step true e g later = record {
      from = k.name;
      member = (both_true (set k.name) (links_to k.links name) e).0;
      link = or_left (pointwise nat_eq k.name k.name && links_to k.links name) (is_link kinds k.name name)
          (true_both _ _ (nat_list_eq_equiv.refl k.name) (both_true (set k.name) (links_to k.links name) e).1);
    }
    step false e g later = let l = later g in record {
      from = l.from;
      member = l.member;
      link = or_right (pointwise nat_eq k.name l.from && links_to k.links name) (is_link kinds l.from name) l.link;
    }

-- what a name of the set links to is linked from the set
pub is_link-linked : (kinds : List Kind) (set : List ℕ → Bool) (from name : List ℕ) → set from ≡ true → is_link kinds from name ≡ true
    → is_linked_from kinds set name ≡ true
is_link-linked [] set from name m h = absurd (cc)
is_link-linked (k ∷ kinds) set from name m h = step (pointwise nat_eq k.name from && links_to k.links name) refl h (is_link-linked kinds set from name m)
  where
    step : (b : Bool) → (pointwise nat_eq k.name from && links_to k.links name) ≡ b → (b || is_link kinds from name) ≡ true
        → (is_link kinds from name ≡ true → is_linked_from kinds set name ≡ true) → is_linked_from (k ∷ kinds) set name ≡ true
    step true e g later =
        let both = both_true (pointwise nat_eq k.name from) (links_to k.links name) e in
        or_left (set k.name && links_to k.links name) (is_linked_from kinds set name)
        (true_both _ _ (subst (λ x. set x ≡ true) (sym (same_text k.name from (sym both.0))) m) both.1)
    step false e g later = or_right (set k.name && links_to k.links name) (is_linked_from kinds set name) (later g)

-- what has a link is declared
pub is_link-declared : (kinds : List Kind) (from name : List ℕ) → is_link kinds from name ≡ true → is_declared kinds from ≡ true
is_link-declared [] from name h = absurd (cc)
is_link-declared (k ∷ kinds) from name h = step (pointwise nat_eq k.name from && links_to k.links name) refl h (is_link-declared kinds from name)
  where
    step : (b : Bool) → (pointwise nat_eq k.name from && links_to k.links name) ≡ b → (b || is_link kinds from name) ≡ true
        → (is_link kinds from name ≡ true → is_declared kinds from ≡ true) → is_declared (k ∷ kinds) from ≡ true
    step true e g later = or_left (pointwise nat_eq k.name from) (is_declared kinds from) (both_true (pointwise nat_eq k.name from) (links_to k.links name) e).0
    step false e g later = or_right (pointwise nat_eq k.name from) (is_declared kinds from) (later g)

-- ---- paths

-- a path that is one link longer
pub IsPath-push : (kinds : List Kind) (from : List ℕ) (path : List (List ℕ)) (mid next : List ℕ) → IsPath kinds from path mid → is_link kinds mid next ≡ true
    → (more : List (List ℕ)) × IsPath kinds from more next
IsPath-push kinds from [] mid next h l =
    (next ∷ [], (subst (λ x. is_link kinds x next ≡ true) (sym (same_text from mid (sym h))) l, nat_list_eq_equiv.refl next))
IsPath-push kinds from (name ∷ path) mid next h l = let rest = IsPath-push kinds name path mid next h.1 l in (name ∷ rest.0, (h.0, rest.1))

-- a name within some links of the root has a path from there
pub is_within-path : (s : Schema) (n : ℕ) (name : List ℕ) → is_within s n name ≡ true → IsReached s name
is_within-path s zero name h = ([], sym (is_within-zero s name) ∙ h)
is_within-path s (suc n) name h = step (is_within s n name) refl (sym (is_within-suc s n name) ∙ h) (is_within-path s n)
  where
    step : (b : Bool) → is_within s n name ≡ b → (is_within s n name || is_linked_from s.kinds.items (is_within s n) name) ≡ true
        → ((other : List ℕ) → is_within s n other ≡ true → IsReached s other) → IsReached s name
    step true e g later = later name e
    step false e g later =
        let l = is_linked_from-link s.kinds.items (is_within s n) name (ap (λ b. b || is_linked_from s.kinds.items (is_within s n) name) (sym e) ∙ g) in
        let p = later l.from l.member in
        IsPath-push s.kinds.items s.root p.0 l.from name p.1 l.link

-- the root is within any number of links of itself
pub is_within-root : (s : Schema) (n : ℕ) → is_within s n s.root ≡ true
is_within-root s zero = is_within-zero s s.root ∙ nat_list_eq_equiv.refl s.root
is_within-root s (suc n) = is_within-more s n s.root (is_within-root s n)

-- a path stays in a set that has each declared name which is linked from it
pub IsPath-member : (kinds : List Kind) (set : List ℕ → Bool)
    → ((name : List ℕ) → is_declared kinds name ≡ true → is_linked_from kinds set name ≡ true → set name ≡ true)
    → (from : List ℕ) (path : List (List ℕ)) (to : List ℕ) → set from ≡ true → IsPath kinds from path to → is_declared kinds to ≡ true → set to ≡ true
IsPath-member kinds set closed from [] to m p d = subst (λ x. set x ≡ true) (same_text from to (sym p)) m
IsPath-member kinds set closed from (next ∷ []) to m p d =
    let e = same_text next to (sym p.1) in
    subst (λ x. set x ≡ true) e (closed next (subst (λ x. is_declared kinds x ≡ true) (sym e) d) (is_link-linked kinds set from next m p.0))
IsPath-member kinds set closed from (next ∷ after ∷ path) to m p d =
    IsPath-member kinds set closed next (after ∷ path) to
    (closed next (is_link-declared kinds next after p.1.0) (is_link-linked kinds set from next m p.0)) p.1 d

-- a declared name that is reached is within as many links as there are kinds
pub IsReached-within : (s : Schema) (name : List ℕ) → IsReached s name → is_declared s.kinds.items name ≡ true → is_within s (length s.kinds.items) name ≡ true
IsReached-within s name r d =
    IsPath-member s.kinds.items (is_within s (length s.kinds.items)) closed s.root r.0 name (is_within-root s (length s.kinds.items)) r.1 d
  where
    closed : (other : List ℕ) → is_declared s.kinds.items other ≡ true → is_linked_from s.kinds.items (is_within s (length s.kinds.items)) other ≡ true
        → is_within s (length s.kinds.items) other ≡ true
    closed other declared linked =
        sym (Agree-declared s.kinds.items _ _ other (within_all s) declared) ∙ is_within-suc s (length s.kinds.items) other ∙ or_right _ _ linked

-- ---- all kinds

-- each kind is declared
pub all_declared : (kinds : List Kind) → list_all (λ k. is_declared kinds k.name) kinds ≡ true
all_declared [] = refl
all_declared (k ∷ kinds) = true_both (is_declared (k ∷ kinds) k.name) _ (or_left _ (is_declared kinds k.name) (nat_list_eq_equiv.refl k.name))
    (list_all-weaker (λ (other : Kind). is_declared kinds other.name) (λ (other : Kind). is_declared (k ∷ kinds) other.name) kinds
    (λ other h. or_right (pointwise nat_eq k.name other.name) (is_declared kinds other.name) h) (all_declared kinds))

-- where all kinds pass the test, each is reached by a path
pub is_reached-all : (s : Schema) (kinds : List Kind) → list_all (is_reached s) kinds ≡ true → All (λ (k : Kind). IsReached s k.name) kinds
is_reached-all s [] h = All-nil (λ (k : Kind). IsReached s k.name)
is_reached-all s (k ∷ kinds) h =
    let both = both_true (is_reached s k) (list_all (is_reached s) kinds) h in
    All-cons (λ (other : Kind). IsReached s other.name) k kinds (is_within-path s (length s.kinds.items) k.name both.0) (is_reached-all s kinds both.1)

-- where each of some declared kinds is reached by a path, all pass the test
pub all-is_reached : (s : Schema) (kinds : List Kind) → list_all (λ k. is_declared s.kinds.items k.name) kinds ≡ true
    → All (λ (k : Kind). IsReached s k.name) kinds → list_all (is_reached s) kinds ≡ true
all-is_reached s [] d h = refl
all-is_reached s (k ∷ kinds) d h =
    let both = both_true (is_declared s.kinds.items k.name) _ d in
    true_both (is_reached s k) (list_all (is_reached s) kinds)
    (IsReached-within s k.name (All-head (λ (other : Kind). IsReached s other.name) k kinds h) both.0)
    (all-is_reached s kinds both.1 (All-tail (λ (other : Kind). IsReached s other.name) k kinds h))
