-- The kinds of a schema that keeps the rules are sound by number.
use Rattle.std.proofs.Common.{◌≡◌, ◌≢◌, ℕ, zero, suc, ◌+◌, ◌/◌, ◌≤◌, ◌<◌, Bool, true, false, not, List}
use Rattle.std.proofs.Common.{[], ◌∷◌, length, map, refl, ap, sym, ◌∙◌, subst, arith, inl, inr, ◌⊎◌, Some}
use Rattle.std.specs.Prelude.{◌&&◌, ◌||◌, ◌==◌, nat_eq, nat_le, nat_lt, slice_index_or, is_none}
use Rattle.std.specs.List.{list_all, position_or_len}
use Rattle.std.specs.Cmp.Lexicographic.{pointwise, same_text}
use Rattle.std.proofs.lemmas.List.{length-map}
use Rattle.dt_model.specs.declared.declared_tensors.Kind.{Kind}
use Rattle.dt_model.specs.declared.declared_tensors.Links.{Links}
use Rattle.dt_model.specs.declared.declared_tensors.Links.TheVariants as links
use Rattle.dt_model.specs.declared.declared_tensors.Schema.{Schema}
use Rattle.dt_model.specs.Flat.{is_unlinked}
use Rattle.dt_model.proofs.Booleans.{both_true, true_both}
use Rattle.schema_check.specs.Links.{pre_of, post_of, is_woven, is_link_to, is_declared, kind_named, pre_kind, post_kind}
use Rattle.schema_check.specs.Rules.{has_bounds, may_be_short, can_be_split, is_declared_link, has_declared_links}
use Rattle.schema_check.specs.Rules.{passes, goes_on_alike, has_fit_links, has_room_for_half, KeepsRules}
use Rattle.node_arena.specs.declared.kinds.NodeKind.{NodeKind}
use Rattle.node_arena.specs.declared.kinds.Shape.TheVariants.{Flat, Woven}
use Rattle.node_arena.specs.Kinds.{number_named, shape_of, numbered, kinds_of, root_of, bare_kind, kind_at, shape_at}
use Rattle.node_arena.specs.Rules.{MayFollow, HasSoundLinks, AreSound}
use Rattle.node_arena.specs.Rules as rules

-- ---- names

-- what is known of the kind that a declared name names
pub record NamesKind (kinds : List Kind) (name : List ℕ) : Type 0 where
  pub kind : Kind
  pub found : kind_named kinds name ≡ Some kind
  pub same : kind.name ≡ name
  pub first : position_or_len (λ k. pointwise nat_eq k.name name) kinds < length kinds
  pub at : (d : NodeKind) (f : Kind → NodeKind) → slice_index_or (map f kinds) (position_or_len (λ k. pointwise nat_eq k.name name) kinds) d ≡ f kind

-- a declared name names a kind
names_kind : (kinds : List Kind) (name : List ℕ) → is_declared kinds name ≡ true → NamesKind kinds name
names_kind [] name h = absurd (cc)
names_kind (k ∷ kinds) name h = step (pointwise nat_eq k.name name) refl h (names_kind kinds name)
  where
    step : (b : Bool) → pointwise nat_eq k.name name ≡ b → (b || is_declared kinds name) ≡ true
        → (is_declared kinds name ≡ true → NamesKind kinds name) → NamesKind (k ∷ kinds) name
    step true e g later = record {
      kind = k;
      found = rw (e) refl;
      same = same_text k.name name (sym e);
      first = rw (e) (omega arith);
      at = λ d f. rw (e) refl;
    }
    step false e g later = let r = later g in record {
      kind = r.kind;
      found = rw (e) r.found;
      same = r.same;
      first = rw (e) (omega (arith, r.first));
      at = λ d f. rw (e) (grind (arith, r.at d f));
    }

-- the number of a declared name is its place
number_named-place : (kinds : List Kind) (name : List ℕ) → (r : NamesKind kinds name)
    → number_named kinds name ≡ position_or_len (λ k. pointwise nat_eq k.name name) kinds
number_named-place kinds name r = step (nat_lt (position_or_len (λ k. pointwise nat_eq k.name name) kinds) (length kinds)) refl
  where
    step : (b : Bool) → nat_lt (position_or_len (λ k. pointwise nat_eq k.name name) kinds) (length kinds) ≡ b
        → number_named kinds name ≡ position_or_len (λ k. pointwise nat_eq k.name name) kinds
    step true e = rw (e) refl
    step false e = absurd (grind (arith, e, r.first))

-- ---- one kind

-- what holds of the placeholder, and of each kind that passes a test that all pass, holds under each number
each_kind : (test : Kind → Bool) (f : Kind → NodeKind) (P : NodeKind → Type 0) (kinds : List Kind) → list_all test kinds ≡ true
    → P bare_kind → ((c : Kind) → test c ≡ true → P (f c)) → (k : ℕ) → P (slice_index_or (map f kinds) k bare_kind)
each_kind test f P [] h b g k = b
each_kind test f P (c ∷ kinds) h b g zero = g c (both_true (test c) (list_all test kinds) h).0
each_kind test f P (c ∷ kinds) h b g (suc k) = each_kind test f P kinds (both_true (test c) (list_all test kinds) h).1 b g k

-- where all pass two tests, all pass both
list_all_both : (p q : Kind → Bool) (kinds : List Kind) → list_all p kinds ≡ true → list_all q kinds ≡ true → list_all (λ c. p c && q c) kinds ≡ true
list_all_both p q [] h g = refl
list_all_both p q (c ∷ kinds) h g =
    let a = both_true (p c) (list_all p kinds) h in
    let b = both_true (q c) (list_all q kinds) g in
    true_both (p c && q c) (list_all (λ d. p d && q d) kinds) (true_both (p c) (q c) a.0 b.0) (list_all_both p q kinds a.1 b.1)

-- a kind that a link names has the number of the link
named_kind : (kinds : List Kind) (name : List ℕ) (r : NamesKind kinds name)
    → kind_at (map (numbered kinds) kinds) (number_named kinds name) ≡ numbered kinds r.kind
named_kind kinds name r = rw (number_named-place kinds name r) (r.at bare_kind (numbered kinds))

-- and it has the links of the kind that is named
named_shape : (kinds : List Kind) (name : List ℕ) (r : NamesKind kinds name)
    → shape_at (map (numbered kinds) kinds) (number_named kinds name) ≡ shape_of kinds r.kind.links
named_shape kinds name r = ap (λ n. n.shape) (named_kind kinds name r)

-- the post kind of a kind may follow it
may_follow : (kinds : List Kind) (hi : ℕ) (name : List ℕ) (c : NodeKind) → c.hi ≡ hi → is_declared kinds name ≡ true
    → passes goes_on_alike (kind_named kinds name) ≡ true
    → passes (λ p. is_woven p.links || nat_le ((hi + 1) / 2) p.hi) (kind_named kinds name) ≡ true
    → MayFollow (map (numbered kinds) kinds) c (number_named kinds name)
may_follow kinds hi name c same h alike room =
    let r = names_kind kinds name h in
    let known : goes_on_alike r.kind ≡ true = subst (λ o. passes goes_on_alike o ≡ true) r.found alike in
    let fits : (is_woven r.kind.links || nat_le ((hi + 1) / 2) r.kind.hi) ≡ true
    = subst (λ o. passes (λ p. is_woven p.links || nat_le ((hi + 1) / 2) p.hi) o ≡ true) r.found room in
    let below : number_named kinds name < length (map (numbered kinds) kinds) =
    rw (number_named-place kinds name r) (grind (arith, r.first, length-map kinds (numbered kinds))) in
    (below, rw (named_shape kinds name r, named_kind kinds name r) (step r r.kind.links known fits))
  where
    step : (r : NamesKind kinds name) (l : Links) → (is_woven l || is_link_to (post_of l) r.kind.name) ≡ true
        → (is_woven l || nat_le ((hi + 1) / 2) r.kind.hi) ≡ true
        → (shape_of kinds l ≡ Woven) ⊎ ((rules.post_of (shape_of kinds l) ≡ Some (number_named kinds name)) × ((c.hi + 1) / 2 ≤ r.kind.hi))
    step r links.Flat a b = absurd (cc)
    step r (links.Post n) a b = inr (ap (λ m. Some (number_named kinds m)) (same_text n r.kind.name (sym a) ∙ r.same), rw same (grind (arith, b)))
    step r (links.Ends m n) a b = inr (ap (λ m. Some (number_named kinds m)) (same_text n r.kind.name (sym a) ∙ r.same), rw same (grind (arith, b)))
    step r links.Woven a b = inl refl

-- a kind that a pre link names isn't flat
pre_unlinked : (kinds : List Kind) (name : List ℕ) → is_declared kinds name ≡ true → passes (λ p. not (is_unlinked p.links)) (kind_named kinds name) ≡ true
    → (number_named kinds name < length (map (numbered kinds) kinds)) × (shape_at (map (numbered kinds) kinds) (number_named kinds name) ≢ Flat)
pre_unlinked kinds name h unflat =
    let r = names_kind kinds name h in
    let known : not (is_unlinked r.kind.links) ≡ true = subst (λ o. passes (λ p. not (is_unlinked p.links)) o ≡ true) r.found unflat in
    let below : number_named kinds name < length (map (numbered kinds) kinds) =
    rw (number_named-place kinds name r) (grind (arith, r.first, length-map kinds (numbered kinds))) in
    (below, rw (named_shape kinds name r) (step r.kind.links known))
  where
    step : (l : Links) → not (is_unlinked l) ≡ true → shape_of kinds l ≢ Flat
    step links.Flat a = absurd (cc)
    step (links.Post n) a = λ e. cc
    step (links.Ends m n) a = λ e. cc
    step links.Woven a = λ e. cc

-- the links of a kind that keeps the rules are sound
sound_links : (kinds : List Kind) (c : NodeKind) (l : Links)
    → (is_none (post_of l) || (c.lo == 1)) ≡ true
    → (not (is_woven l) || (nat_le 2 c.hi && nat_le c.lo (c.hi / 2))) ≡ true
    → (is_declared_link kinds (pre_of l) && is_declared_link kinds (post_of l)) ≡ true
    → (passes (λ p. not (is_unlinked p.links)) (pre_kind kinds l) && passes goes_on_alike (post_kind kinds l)) ≡ true
    → passes (λ p. is_woven p.links || nat_le ((c.hi + 1) / 2) p.hi) (post_kind kinds l) ≡ true
    → HasSoundLinks (map (numbered kinds) kinds) c (shape_of kinds l)
sound_links kinds c links.Flat short split declared fit room = tt
sound_links kinds c (links.Post n) short split declared fit room =
    (grind (arith, short), may_follow kinds c.hi n c refl declared fit room)
sound_links kinds c (links.Ends m n) short split declared fit room =
    let both = both_true (is_declared kinds m) (is_declared kinds n) declared in
    let fits = both_true (passes (λ p. not (is_unlinked p.links)) (kind_named kinds m)) (passes goes_on_alike (kind_named kinds n)) fit in
    let pre = pre_unlinked kinds m both.0 fits.0 in
    (grind (arith, short), pre.0, pre.1, may_follow kinds c.hi n c refl both.1 fits.1 room)
sound_links kinds c links.Woven short split declared fit room =
    let both = both_true (nat_le 2 c.hi) (nat_le c.lo (c.hi / 2)) split in
    (grind (arith, both.0), grind (arith, both.1))

-- ---- all kinds

-- what is tested of a kind's links
abbrev links_test : List Kind → Kind → Bool
links_test kinds c = may_be_short c && (can_be_split c && (has_declared_links kinds c && (has_fit_links kinds c && has_room_for_half kinds c)))

-- the kinds of a schema that keeps the rules are sound
pub AreSound-kinds_of : (s : Schema) → KeepsRules s → AreSound (kinds_of s)
AreSound-kinds_of s r =
    let kinds = s.kinds.items in
    let f = numbered kinds in
    let tested : list_all (links_test kinds) kinds ≡ true =
    list_all_both may_be_short (λ c. can_be_split c && (has_declared_links kinds c && (has_fit_links kinds c && has_room_for_half kinds c))) kinds r.short
    (list_all_both can_be_split (λ c. has_declared_links kinds c && (has_fit_links kinds c && has_room_for_half kinds c)) kinds r.split
    (list_all_both (has_declared_links kinds) (λ c. has_fit_links kinds c && has_room_for_half kinds c) kinds r.links
    (list_all_both (has_fit_links kinds) (has_room_for_half kinds) kinds r.alike r.halves))) in
    record {
      some = each_kind has_bounds f (λ n. 1 ≤ n.lo) kinds r.bounds (omega arith) (λ c h. bound_low c h);
      bounds = each_kind has_bounds f (λ n. n.lo ≤ n.hi) kinds r.bounds (omega arith) (λ c h. bound_order c h);
      few = each_kind has_bounds f (λ n. n.hi ≤ 16) kinds r.bounds (omega arith) (λ c h. bound_high c h);
      links = each_kind (links_test kinds) f (λ n. HasSoundLinks (map f kinds) n n.shape) kinds tested tt (λ c h. apart c h);
    }
  where
    bound_low : (c : Kind) → has_bounds c ≡ true → 1 ≤ c.lo
    bound_low c h = let a = both_true (nat_le 1 c.lo && nat_le c.lo c.hi) (nat_le c.hi 16) h in
        let b = both_true (nat_le 1 c.lo) (nat_le c.lo c.hi) a.0 in grind (arith, b.0)

    bound_order : (c : Kind) → has_bounds c ≡ true → c.lo ≤ c.hi
    bound_order c h = let a = both_true (nat_le 1 c.lo && nat_le c.lo c.hi) (nat_le c.hi 16) h in
        let b = both_true (nat_le 1 c.lo) (nat_le c.lo c.hi) a.0 in grind (arith, b.1)

    bound_high : (c : Kind) → has_bounds c ≡ true → c.hi ≤ 16
    bound_high c h = let a = both_true (nat_le 1 c.lo && nat_le c.lo c.hi) (nat_le c.hi 16) h in grind (arith, a.1)

    apart : (c : Kind) → links_test s.kinds.items c ≡ true
        → HasSoundLinks (map (numbered s.kinds.items) s.kinds.items) (numbered s.kinds.items c) (shape_of s.kinds.items c.links)
    apart c h =
        let kinds = s.kinds.items in
        let a = both_true (may_be_short c) (can_be_split c && (has_declared_links kinds c && (has_fit_links kinds c && has_room_for_half kinds c))) h in
        let b = both_true (can_be_split c) (has_declared_links kinds c && (has_fit_links kinds c && has_room_for_half kinds c)) a.1 in
        let d = both_true (has_declared_links kinds c) (has_fit_links kinds c && has_room_for_half kinds c) b.1 in
        let e = both_true (has_fit_links kinds c) (has_room_for_half kinds c) d.1 in
        sound_links kinds (numbered kinds c) c.links a.0 b.0 d.0 e.0 e.1

-- the root's number is that of a kind
pub root_of-declared : (s : Schema) → KeepsRules s → root_of s < length (kinds_of s)
root_of-declared s keeps =
    let r = names_kind s.kinds.items s.root keeps.root in
    rw (number_named-place s.kinds.items s.root r) (grind (arith, r.first, length-map s.kinds.items (numbered s.kinds.items)))
