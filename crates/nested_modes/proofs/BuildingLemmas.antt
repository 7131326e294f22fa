-- Elements that hold new structures, one behind another, and the structure that is made of them.
use Rattle.std.proofs.Common.{◌≡◌, ◌≢◌, ℕ, List, [], ◌∷◌, ◌++◌, length, flat_map, refl, ap, ◌∙◌, sym, subst, append-nil, arith}
use Rattle.std.specs.List.{All}
use Rattle.std.proofs.lemmas.List.Concat.{flat_map-append}
use Rattle.std.proofs.lemmas.List.Elements.{All-nil, All-cons, All-push, All-append}
use Rattle.dt_model.specs.declared.declared_tensors.Schema.{Schema}
use Rattle.bulk_build.specs.Building.{IsBuilt}
use Rattle.node_arena.specs.declared.elements.Elem.{Elem}
use Rattle.node_arena.specs.declared.elements.Held.TheVariants.{Number, Inner}
use Rattle.node_arena.specs.declared.elements.Structure.{Structure}
use Rattle.node_arena.specs.declared.elements.Top.TheVariants as tops
use Rattle.node_arena.specs.Arenas.{ArenaState}
use Rattle.node_arena.specs.Kinds.{kinds_of, root_of}
use Rattle.node_arena.specs.Modes.{Mode, tree_in, inners, ApartBelow, AllApart, IsHeldFor, IsNested, under, entries_held, entries_in}
use Rattle.node_arena.specs.Structures.{Tree, empty, walk_of, AreApart, IsStanding, IsStructure}
use Rattle.node_arena.proofs.ModesLemmas.{tree_in-stands, tree_in-empty}
use Rattle.node_arena.proofs.StructuresLemmas.{AreApart-flip, AreApart-new, IsStanding-outside}
use Rattle.nested_modes.specs.Building.{AddsTo, IsBuiltIn}
use Rattle.nested_modes.specs.Codes.{modes_of}
use Rattle.nested_modes.specs.Frames.{KeepsNested}
use Rattle.nested_modes.proofs.ApartLemmas.{AreCrossApart, ApartBelow-flip, AllApart-append}
use Rattle.nested_modes.proofs.KeptLemmas.{ApartBelow-kept, AllApart-kept, holds-kept, IsNested-kept, entries-same, entries_in-kept}
use Rattle.nested_modes.proofs.ListsLemmas.{inners-append}
use Rattle.nested_modes.proofs.StepLemmas.{inners-held}

-- ---- what is kept

-- where nothing changes, a structure is as before
pub KeepsNested-same : (cs : List Schema) (old : List ArenaState) (z : Structure) → IsNested (modes_of cs old) z
    → KeepsNested (modes_of cs old) (modes_of cs old) z
KeepsNested-same [] old z h = tt
KeepsNested-same (c ∷ cs) [] z h = tt
KeepsNested-same (c ∷ cs) (a ∷ old) z h =
    let inner : All (λ y. IsNested (modes_of cs old) y) (inners (walk_of (kinds_of c) (tree_in a z))) =
    inners-held (modes_of cs old) (λ y. IsNested (modes_of cs old) y) (walk_of (kinds_of c) (tree_in a z)) h.holds in
    (h.structure.stands, λ k d l. KeepsNested-same cs old _ (inner k d l))

-- what is kept by two changes is kept
pub KeepsNested-then : (cs : List Schema) (old mid new : List ArenaState) (z : Structure) → length mid ≡ length old → length new ≡ length mid
    → KeepsNested (modes_of cs old) (modes_of cs mid) z → KeepsNested (modes_of cs mid) (modes_of cs new) z
    → KeepsNested (modes_of cs old) (modes_of cs new) z
KeepsNested-then [] old mid new z e f k h = tt
KeepsNested-then (c ∷ cs) [] mid new z e f k h = tt
KeepsNested-then (c ∷ cs) (a ∷ old) [] new z e f k h = absurd (omega arith)
KeepsNested-then (c ∷ cs) (a ∷ old) (b ∷ mid) [] z e f k h = absurd (omega arith)
KeepsNested-then (c ∷ cs) (a ∷ old) (b ∷ mid) (d ∷ new) z e f k h =
    let s = kinds_of c in
    let first : length mid ≡ length old = omega arith in
    let second : length new ≡ length mid = omega arith in
    let same : tree_in b z ≡ tree_in a z = tree_in-stands s b z (tree_in a z) k.0 in
    let later : All (λ y. KeepsNested (modes_of cs mid) (modes_of cs new) y) (inners (walk_of s (tree_in a z))) =
    subst (λ t. All (λ y. KeepsNested (modes_of cs mid) (modes_of cs new) y) (inners (walk_of s t))) same h.1 in
    (subst (λ t. IsStanding s d z t) same h.0, λ i x l. KeepsNested-then cs old mid new _ first second (k.1 i x l) (later i x l))

-- ---- elements so far

-- the elements hold structures that are new, with these entries
pub record IsBegun (cs : List Schema) (old new : List ArenaState) (es : List Elem) (ps : List (List ℕ × ℕ)) : Type 0 where
  pub holds : All (λ e. IsHeldFor (modes_of cs new) (λ st. IsNested (modes_of cs new) st) e.held) es
  pub apart : AllApart (modes_of cs new) (inners es)
  pub entries : flat_map (λ e. under e.at (entries_held (λ st. entries_in (modes_of cs new) st) e.held)) es ≡ ps
  pub adds : AddsTo (modes_of cs old) (modes_of cs new) (inners es)

-- at first there are none
pub IsBegun-none : (cs : List Schema) (old : List ArenaState) → IsBegun cs old old [] []
IsBegun-none cs old = record {
  holds = All-nil (λ e. IsHeldFor (modes_of cs old) (λ st. IsNested (modes_of cs old) st) e.held);
  apart = tt;
  entries = refl;
  adds = λ z h. (KeepsNested-same cs old z h, All-nil (λ y. ApartBelow (modes_of cs old) y z));
}

apart-last : (xs : List Structure) → AllApart [] xs
apart-last [] = tt
apart-last (x ∷ xs) = ((λ k d l. tt), apart-last xs)

-- one more number, in the last mode
pub IsBegun-number : (old new : List ArenaState) (es : List Elem) (ps : List (List ℕ × ℕ)) (n v : ℕ) → IsBegun [] old new es ps
    → IsBegun [] old new (es ++ (record { at = n; held = Number v }) ∷ []) (ps ++ under n (([], v) ∷ []))
IsBegun-number old new es ps n v b =
    let e : Elem = record { at = n; held = Number v } in
    let f : Elem → List (List ℕ × ℕ) = λ e. under e.at (entries_held (λ st. entries_in (modes_of [] new) st) e.held) in
    record {
      holds = All-push (λ e. IsHeldFor [] (λ st. IsNested [] st) e.held) es e b.holds tt;
      apart = apart-last (inners (es ++ e ∷ []));
      entries = flat_map-append f es (e ∷ []) ∙ ap (λ l. l ++ under n (([], v) ∷ [])) b.entries;
      adds = λ z h. absurd h;
    }

held-inner : (ms : List Mode) (st : Structure) → st.top ≢ tops.Empty → IsNested ms st → IsHeldFor ms (λ y. IsNested ms y) (Inner st)
held-inner [] st some h = absurd h
held-inner (m ∷ ms) st some h = (some, h)

module _ (cs : List Schema) (old mid new : List ArenaState) (es : List Elem) (ps qs : List (List ℕ × ℕ)) (n : ℕ) (st : Structure)
    (first : length mid ≡ length old) (second : length new ≡ length mid) (b : IsBegun cs old mid es ps) (built : IsBuiltIn cs mid new qs st)
    (some : qs ≢ []) where
  abbrev one : Elem
  one = record { at = n; held = Inner st }

  nested-mid : All (λ y. IsNested (modes_of cs mid) y) (inners es)
  nested-mid = inners-held (modes_of cs mid) (λ y. IsNested (modes_of cs mid) y) es b.holds

  kept-mid : All (λ y. KeepsNested (modes_of cs mid) (modes_of cs new) y) (inners es)
  kept-mid = λ k d l. (built.adds _ (nested-mid k d l)).0

  cross : AreCrossApart (modes_of cs new) (inners es) (st ∷ [])
  cross = λ k d l j r g. ApartBelow-flip (modes_of cs new) _ _ ((built.adds _ (nested-mid k d l)).1 j r g)

  both : inners (es ++ one ∷ []) ≡ inners es ++ st ∷ []
  both = inners-append es (one ∷ [])

  adds-one : AddsTo (modes_of cs old) (modes_of cs new) (inners es ++ st ∷ [])
  adds-one = λ z h.
      let k = b.adds z h in
      let g = built.adds z (IsNested-kept cs old mid z first k.0 h) in
      let mine : All (λ y. ApartBelow (modes_of cs new) y z) (inners es) =
      λ i d l. ApartBelow-kept cs mid new _ z second (kept-mid i d l) g.0 (k.1 i d l) in
      (KeepsNested-then cs old mid new z first second k.0 g.0, All-append (λ y. ApartBelow (modes_of cs new) y z) (inners es) (st ∷ []) mine g.1)

  -- one more structure, in a mode but the last
  pub IsBegun-inner : IsBegun cs old new (es ++ one ∷ []) (ps ++ under n qs)
  IsBegun-inner =
      let Was : Structure → Type 0 = λ y. IsNested (modes_of cs mid) y in
      let Is : Structure → Type 0 = λ y. IsNested (modes_of cs new) y in
      let F : Structure → List (List ℕ × ℕ) = λ y. entries_in (modes_of cs mid) y in
      let G : Structure → List (List ℕ × ℕ) = λ y. entries_in (modes_of cs new) y in
      record {
        holds = All-push (λ e. IsHeldFor (modes_of cs new) Is e.held) es one
            (holds-kept cs mid new Was Is es second (λ k d l g. IsNested-kept cs mid new _ second (kept-mid k d l) g) b.holds)
            (held-inner (modes_of cs new) st (built.some some) built.nested);
        apart = subst (AllApart (modes_of cs new)) (sym both)
            (AllApart-append (modes_of cs new) (inners es) (st ∷ []) (AllApart-kept cs mid new (inners es) second kept-mid b.apart)
            (All-nil (ApartBelow (modes_of cs new) st), tt) cross);
        entries = flat_map-append (λ (e : Elem). under e.at (entries_held G e.held)) es (one ∷ [])
            ∙ ap (λ l. l ++ (under n (G st) ++ [])) (entries-same F G es (λ k d l. entries_in-kept cs mid new _ second (kept-mid k d l)) ∙ b.entries)
            ∙ ap (λ l. ps ++ l) (append-nil (under n (G st)) ∙ ap (under n) built.entries);
        adds = subst (AddsTo (modes_of cs old) (modes_of cs new)) (sym both) adds-one;
      }

-- ---- the structure

module _ (c : Schema) (cs : List Schema) (a b : ArenaState) (old new : List ArenaState) (es : List Elem) (ps : List (List ℕ × ℕ)) (st : Structure)
    (begun : IsBegun cs old new es ps) (built : IsBuilt (kinds_of c) (root_of c) a b es st) where
  own : tree_in b st ≡ built.tree
  own = tree_in-stands (kinds_of c) b st built.tree built.stands

  walk-own : walk_of (kinds_of c) (tree_in b st) ≡ es
  walk-own = ap (walk_of (kinds_of c)) own ∙ built.walk_is

  apart-empty : (u : Tree) → AreApart u empty
  apart-empty u = AreApart-flip empty u (record { nodes = tt; runs = tt })

  adds-own : AddsTo (modes_of (c ∷ cs) (a ∷ old)) (modes_of (c ∷ cs) (b ∷ new)) (st ∷ [])
  adds-own = λ z h.
      let s = kinds_of c in
      let u = tree_in a z in
      let was : IsStanding s a z u = h.structure.stands in
      let is : IsStanding s b z u = IsStanding-outside s a b z empty u built.keeps (apart-empty u) was in
      let nested : All (λ y. IsNested (modes_of cs old) y) (inners (walk_of s u)) =
      inners-held (modes_of cs old) (λ y. IsNested (modes_of cs old) y) (walk_of s u) h.holds in
      let away : AreApart built.tree u = AreApart-flip u built.tree (AreApart-new s a z empty built.tree u built.news was (apart-empty u)) in
      let Apart : List Elem → Tree → Type 0 =
      λ xs t. All (λ p. All (λ q. ApartBelow (modes_of cs new) p q) (inners (walk_of s t))) (inners xs) in
      let inner : Apart es u = λ k d l j r g. (begun.adds _ (nested j r g)).1 k d l in
      let same : tree_in b z ≡ u = tree_in-stands s b z u is in
      let mine : ApartBelow (modes_of (c ∷ cs) (b ∷ new)) st z = (
        subst (λ t. AreApart t (tree_in b z)) (sym own) (subst (λ t. AreApart built.tree t) (sym same) away),
        subst (λ xs. Apart xs (tree_in b z)) (sym walk-own) (subst (λ t. Apart es t) (sym same) inner),
      ) in (
        (is, λ k d l. (begun.adds _ (nested k d l)).0),
        All-cons (λ y. ApartBelow (modes_of (c ∷ cs) (b ∷ new)) y z) st [] mine (All-nil (λ y. ApartBelow (modes_of (c ∷ cs) (b ∷ new)) y z)),
      )

  -- the elements are built as one structure
  pub IsBuiltIn-own : IsBuiltIn (c ∷ cs) (a ∷ old) (b ∷ new) ps st
  IsBuiltIn-own =
      let s = kinds_of c in
      let f : Elem → List (List ℕ × ℕ) = λ e. under e.at (entries_held (λ y. entries_in (modes_of cs new) y) e.held) in
      let entries : flat_map f (walk_of s (tree_in b st)) ≡ ps = ap (flat_map f) walk-own ∙ begun.entries in
      let structure : IsStructure s (root_of c) b st built.tree = record { stands = built.stands; conforms = built.conforms } in
      record {
        nested = record {
          structure = subst (λ t. IsStructure s (root_of c) b st t) (sym own) structure;
          holds = subst (λ xs. All (λ e. IsHeldFor (modes_of cs new) (λ y. IsNested (modes_of cs new) y) e.held) xs) (sym walk-own) begun.holds;
          apart = subst (λ xs. AllApart (modes_of cs new) (inners xs)) (sym walk-own) begun.apart;
        };
        entries = entries;
        adds = adds-own;
        some = λ more none. more (sym entries ∙ ap (λ t. flat_map f (walk_of s t)) (tree_in-empty b st none));
      }
