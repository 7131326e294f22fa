-- One element is set in the first mode, and what it holds is new in the others.
use Rattle.std.proofs.Common.{◌≡◌, ℕ, Bool, true, false, cond, eqb, Some, List, [], ◌∷◌, ◌++◌, length, flat_map, ap, ◌∙◌, sym, subst}
use Rattle.std.specs.List.{All}
use Rattle.std.proofs.lemmas.List.Elements.{All-nil, All-cons, All-head, All-tail, All-append}
use Rattle.dt_model.specs.declared.declared_tensors.Schema.{Schema}
use Rattle.node_arena.specs.declared.elements.Elem.{Elem}
use Rattle.node_arena.specs.declared.elements.Held.{Held}
use Rattle.node_arena.specs.declared.elements.Held.TheVariants.{Number, Inner}
use Rattle.node_arena.specs.declared.elements.Structure.{Structure}
use Rattle.node_arena.specs.Arenas.{ArenaState}
use Rattle.node_arena.specs.Kinds.{kinds_of, root_of}
use Rattle.node_arena.specs.Modes.{Mode, tree_in, with_inner, inners, ApartBelow, AllApart, IsHeldFor, IsNested, under, entries_held, entries_in}
use Rattle.node_arena.specs.Structures.{Tree, walk_of, AreApart, IsStanding, IsStructure}
use Rattle.node_arena.proofs.ModesLemmas.{tree_in-stands}
use Rattle.node_arena.proofs.StructuresLemmas.{AreApart-flip, AreApart-new, IsStanding-outside}
use Rattle.nested_modes.specs.Codes.{modes_of}
use Rattle.nested_modes.specs.Frames.{KeepsNested, KeepsOthers}
use Rattle.iter_gen.specs.LookingUp.{elem_with}
use Rattle.nested_modes.specs.Paths.{empty_structure, held_structure, inner_of}
use Rattle.nested_modes.specs.Putting.{PutsEntry, IsSetIn, KeepsBelow}
use Rattle.nested_modes.proofs.SetsLemmas.{elem_with-rest, elem_with-other}
use Rattle.nested_modes.proofs.ListsLemmas.{All-left, All-right, All-held, with_inner-append, inners-append}
use Rattle.nested_modes.proofs.ApartLemmas.{AreCrossApart, AreCrossApart-flip, append-AllApart, AllApart-append, AreCrossApart-left, AreCrossApart-right, AreCrossApart-append}
use Rattle.nested_modes.proofs.EntriesLemmas.{entries_of, entries_below, PutsEntry-set}
use Rattle.nested_modes.proofs.KeptLemmas.{KeepsNested-empty, ApartBelow-kept, AllApart-kept, holds-kept, IsNested-kept, entries-same, entries_in-kept}

-- ---- the structures beside

-- each structure that is apart from those whose place is taken is as before, and apart from what is held in their place
abbrev pub KeepsBeside : List Mode → List Mode → List Elem → Held → Type 0
KeepsBeside ms ns was h = (z : Structure) → IsNested ms z → All (λ y. ApartBelow ms y z) (inners was)
    → KeepsNested ms ns z × All (λ y. ApartBelow ns y z) (with_inner h [])

held-nested : (ms : List Mode) (P : Structure → Type 0) (h : Held) (rest : List Structure) → IsHeldFor ms P h → All P rest → All P (with_inner h rest)
held-nested ms P (Number v) rest g r = r
held-nested [] P (Inner st) rest g r = absurd g
held-nested (m ∷ ms) P (Inner st) rest g r = All-cons P st rest g.1 r

-- what elements hold as they should
pub inners-held : (ms : List Mode) (P : Structure → Type 0) (es : List Elem) → All (λ e. IsHeldFor ms P e.held) es → All P (inners es)
inners-held ms P [] h = All-nil P
inners-held ms P (e ∷ es) h =
    let Is : Elem → Type 0 = λ z. IsHeldFor ms P z.held in
    held-nested ms P e.held (inners es) (All-head Is e es h) (inners-held ms P es (All-tail Is e es h))

inners-parts : (before was after : List Elem) → inners (before ++ (was ++ after)) ≡ inners before ++ (inners was ++ inners after)
inners-parts before was after = inners-append before (was ++ after) ∙ ap (λ l. inners before ++ l) (inners-append was after)

inners-set : (before after : List Elem) (x : Elem) → inners (before ++ x ∷ after) ≡ inners before ++ (with_inner x.held [] ++ inners after)
inners-set before after x = inners-append before (x ∷ after) ∙ ap (λ l. inners before ++ l) (with_inner-append x.held (inners after))

one-apart : (ms : List Mode) (h : Held) → AllApart ms (with_inner h [])
one-apart ms (Number v) = tt
one-apart ms (Inner st) = (All-nil (ApartBelow ms st), tt)

module _ (cs : List Schema) (old new : List ArenaState) (same : length new ≡ length old) (held : Held) (was : List Elem)
    (f : KeepsBeside (modes_of cs old) (modes_of cs new) was held) where
  beside : (zs : List Structure) → All (λ z. IsNested (modes_of cs old) z) zs → AreCrossApart (modes_of cs old) (inners was) zs
      → All (λ z. KeepsNested (modes_of cs old) (modes_of cs new) z × All (λ y. ApartBelow (modes_of cs new) y z) (with_inner held [])) zs
  beside zs n c = λ k d l. f _ (n k d l) (λ j r g. c j r g k d l)

  -- structures beside are kept
  pub All-beside : (zs : List Structure) → All (λ z. IsNested (modes_of cs old) z) zs → AreCrossApart (modes_of cs old) (inners was) zs
      → All (λ z. KeepsNested (modes_of cs old) (modes_of cs new) z) zs
  All-beside zs n c = λ k d l. (beside zs n c k d l).0

  -- and apart from what is held now
  pub apart-beside : (zs : List Structure) → All (λ z. IsNested (modes_of cs old) z) zs → AreCrossApart (modes_of cs old) (inners was) zs
      → AreCrossApart (modes_of cs new) (with_inner held []) zs
  apart-beside zs n c = λ j r g k d l. (beside zs n c k d l).1 j r g

  -- of the structures of a list one is another now, and they are apart
  pub AllApart-set : (xs zs : List Structure) → All (λ z. IsNested (modes_of cs old) z) xs → All (λ z. IsNested (modes_of cs old) z) zs
      → AllApart (modes_of cs old) (xs ++ (inners was ++ zs))
      → All (λ z. KeepsNested (modes_of cs old) (modes_of cs new) z) xs × All (λ z. KeepsNested (modes_of cs old) (modes_of cs new) z) zs
      × AllApart (modes_of cs new) (xs ++ (with_inner held [] ++ zs))
  AllApart-set xs zs nx nz h =
      let ms = modes_of cs old in
      let ns = modes_of cs new in
      let ws = inners was in
      let hs = with_inner held [] in
      let p = append-AllApart ms xs (ws ++ zs) h in
      let q = append-AllApart ms ws zs p.1.0 in
      let wx : AreCrossApart ms ws xs = AreCrossApart-flip ms xs ws (AreCrossApart-left ms xs ws zs p.1.1) in
      let xz : AreCrossApart ms xs zs = AreCrossApart-right ms xs ws zs p.1.1 in
      let kx = All-beside xs nx wx in
      let kz = All-beside zs nz q.1.1 in
      let first : AllApart ns xs = AllApart-kept cs old new xs same kx p.0 in
      let last : AllApart ns zs = AllApart-kept cs old new zs same kz q.1.0 in
      let far : AreCrossApart ns xs zs = λ k d l j r g. ApartBelow-kept cs old new _ _ same (kx k d l) (kz j r g) (xz k d l j r g) in
      let rest : AllApart ns (hs ++ zs) = AllApart-append ns hs zs (one-apart ns held) last (apart-beside zs nz q.1.1) in (
        kx,
        kz,
        AllApart-append ns xs (hs ++ zs) first rest (AreCrossApart-append ns xs hs zs (AreCrossApart-flip ns hs xs (apart-beside xs nx wx)) far),
      )

-- ---- below a coordinate

kept-step : (P : Structure → Type 0) (m : ℕ) (e : Elem) (es : List Elem) (b : Bool) → P (held_structure e.held) → P (inner_of (elem_with m es))
    → P (inner_of (cond b (Some e) (elem_with m es)))
kept-step P m e es true h g = h
kept-step P m e es false h g = g

held-kept : (P : Structure → Type 0) (h : Held) → P empty_structure → All P (with_inner h []) → P (held_structure h)
held-kept P (Number v) e k = e
held-kept P (Inner st) e k = All-head P st [] k

-- what holds of each structure that is held, and of an empty one, holds below a coordinate
pub kept-found : (P : Structure → Type 0) (m : ℕ) (es : List Elem) → P empty_structure → All P (inners es) → P (inner_of (elem_with m es))
kept-found P m [] e h = e
kept-found P m (z ∷ zs) e h =
    let r = All-held P z.held (inners zs) h in
    kept-step P m z zs (eqb z.at m) (held-kept P z.held e r.0) (kept-found P m zs e r.1)

-- ---- a structure

module _ (c : Schema) (cs : List Schema) (a b : ArenaState) (old new : List ArenaState) (x : Elem) (st now : Structure) (same : length new ≡ length old)
    (h : IsNested (modes_of (c ∷ cs) (a ∷ old)) st) (g : IsSetIn (kinds_of c) (root_of c) a b x (tree_in a st) now)
    (f : KeepsBeside (modes_of cs old) (modes_of cs new) g.sets.was x.held) where
  tree-now : tree_in b now ≡ g.tree
  tree-now = tree_in-stands (kinds_of c) b now g.tree g.stands

  holds-parts : All (λ e. IsHeldFor (modes_of cs old) (λ y. IsNested (modes_of cs old) y) e.held) (g.sets.before ++ (g.sets.was ++ g.sets.after))
  holds-parts = subst (λ l. All (λ e. IsHeldFor (modes_of cs old) (λ y. IsNested (modes_of cs old) y) e.held) l) g.sets.old_is h.holds

  before-held : All (λ e. IsHeldFor (modes_of cs old) (λ y. IsNested (modes_of cs old) y) e.held) g.sets.before
  before-held = All-left (λ e. IsHeldFor (modes_of cs old) (λ y. IsNested (modes_of cs old) y) e.held) g.sets.before (g.sets.was ++ g.sets.after) holds-parts

  after-held : All (λ e. IsHeldFor (modes_of cs old) (λ y. IsNested (modes_of cs old) y) e.held) g.sets.after
  after-held =
      let Is : Elem → Type 0 = λ e. IsHeldFor (modes_of cs old) (λ y. IsNested (modes_of cs old) y) e.held in
      All-right Is g.sets.was g.sets.after (All-right Is g.sets.before (g.sets.was ++ g.sets.after) holds-parts)

  set-parts : All (λ z. KeepsNested (modes_of cs old) (modes_of cs new) z) (inners g.sets.before)
      × All (λ z. KeepsNested (modes_of cs old) (modes_of cs new) z) (inners g.sets.after)
      × AllApart (modes_of cs new) (inners g.sets.before ++ (with_inner x.held [] ++ inners g.sets.after))
  set-parts =
      let ms = modes_of cs old in
      let Is : Structure → Type 0 = λ y. IsNested ms y in
      let apart : AllApart ms (inners g.sets.before ++ (inners g.sets.was ++ inners g.sets.after)) = subst (AllApart ms)
      (ap inners g.sets.old_is ∙ inners-parts g.sets.before g.sets.was g.sets.after) h.apart in
      AllApart-set cs old new same x.held g.sets.was f (inners g.sets.before) (inners g.sets.after)
      (inners-held ms Is g.sets.before before-held) (inners-held ms Is g.sets.after after-held) apart

  -- it is one of the modes as they are now
  pub IsNested-set : IsHeldFor (modes_of cs new) (λ y. IsNested (modes_of cs new) y) x.held → IsNested (modes_of (c ∷ cs) (b ∷ new)) now
  IsNested-set here =
      let ms = modes_of cs old in
      let ns = modes_of cs new in
      let s = kinds_of c in
      let Was : Structure → Type 0 = λ y. IsNested ms y in
      let Is : Structure → Type 0 = λ y. IsNested ns y in
      let Holds : Elem → Type 0 = λ e. IsHeldFor ns Is e.held in
      let kb = set-parts.0 in
      let ka = set-parts.1 in
      let hb : All Holds g.sets.before = holds-kept cs old new Was Is g.sets.before same (λ j d l n. IsNested-kept cs old new _ same (kb j d l) n)
      before-held in
      let ha : All Holds g.sets.after = holds-kept cs old new Was Is g.sets.after same (λ j d l n. IsNested-kept cs old new _ same (ka j d l) n) after-held in
      let holds : All Holds (g.sets.before ++ x ∷ g.sets.after) = All-append Holds g.sets.before (x ∷ g.sets.after) hb
      (All-cons Holds x g.sets.after here ha) in
      let walks : g.sets.before ++ x ∷ g.sets.after ≡ walk_of s (tree_in b now) = sym g.sets.new_is ∙ ap (walk_of s) (sym tree-now) in
      let structure : IsStructure s (root_of c) b now g.tree = record { stands = g.stands; conforms = g.conforms } in
      record {
        structure = subst (λ t. IsStructure s (root_of c) b now t) (sym tree-now) structure;
        holds = subst (All Holds) walks holds;
        apart = subst (AllApart ns) (sym (inners-set g.sets.before g.sets.after x) ∙ ap inners walks) set-parts.2;
      }

  -- structures that were apart from it are as before, and apart from it
  pub KeepsOthers-set : KeepsOthers (modes_of (c ∷ cs) (a ∷ old)) (modes_of (c ∷ cs) (b ∷ new)) st now
  KeepsOthers-set z n p =
      let ms = modes_of cs old in
      let ns = modes_of cs new in
      let s = kinds_of c in
      let t = tree_in a st in
      let v = tree_in a z in
      let zs = inners (walk_of s v) in
      let stands : IsStanding s a z v = n.structure.stands in
      let apart : AreApart v t = AreApart-flip t v p.0 in
      let stays : IsStanding s b z v = IsStanding-outside s a b z t v g.keeps apart stands in
      let nested : All (λ y. IsNested ms y) zs = inners-held ms (λ y. IsNested ms y) (walk_of s v) n.holds in
      let cross : AreCrossApart ms (inners g.sets.before ++ (inners g.sets.was ++ inners g.sets.after)) zs =
      subst (λ l. AreCrossApart ms l zs) (ap inners g.sets.old_is ∙ inners-parts g.sets.before g.sets.was g.sets.after) p.1 in
      let Cross : Structure → Type 0 = λ y. All (λ q. ApartBelow ms y q) zs in
      let cb : AreCrossApart ms (inners g.sets.before) zs = All-left Cross (inners g.sets.before) (inners g.sets.was ++ inners g.sets.after) cross in
      let cr : AreCrossApart ms (inners g.sets.was ++ inners g.sets.after) zs = All-right Cross (inners g.sets.before)
      (inners g.sets.was ++ inners g.sets.after) cross in
      let cw : AreCrossApart ms (inners g.sets.was) zs = All-left Cross (inners g.sets.was) (inners g.sets.after) cr in
      let ca : AreCrossApart ms (inners g.sets.after) zs = All-right Cross (inners g.sets.was) (inners g.sets.after) cr in
      let kz = All-beside cs old new same x.held g.sets.was f zs nested cw in
      let kb = set-parts.0 in
      let ka = set-parts.1 in
      let nb : AreCrossApart ns (inners g.sets.before) zs = λ k d l j r q. ApartBelow-kept cs old new _ _ same (kb k d l) (kz j r q) (cb k d l j r q) in
      let na : AreCrossApart ns (inners g.sets.after) zs = λ k d l j r q. ApartBelow-kept cs old new _ _ same (ka k d l) (kz j r q) (ca k d l j r q) in
      let nx : AreCrossApart ns (with_inner x.held []) zs = apart-beside cs old new same x.held g.sets.was f zs nested cw in
      let Now : Structure → Type 0 = λ y. All (λ q. ApartBelow ns y q) zs in
      let all : AreCrossApart ns (inners g.sets.before ++ (with_inner x.held [] ++ inners g.sets.after)) zs =
      All-append Now (inners g.sets.before) (with_inner x.held [] ++ inners g.sets.after) nb
      (All-append Now (with_inner x.held []) (inners g.sets.after) nx na) in
      let walks : inners g.sets.before ++ (with_inner x.held [] ++ inners g.sets.after) ≡ inners (walk_of s g.tree) =
      sym (inners-set g.sets.before g.sets.after x) ∙ ap inners (sym g.sets.new_is) in
      let free : AreApart g.tree v = AreApart-flip v g.tree (AreApart-new s a z t g.tree v g.news stands apart) in
      let Apart : Tree → Tree → Type 0 = λ q w. AreApart q w × All (λ y. All (λ o. ApartBelow ns y o) (inners (walk_of s w))) (inners (walk_of s q)) in
      let found : Apart g.tree v = (free, subst (λ l. AreCrossApart ns l zs) walks all) in
      let same-z : tree_in b z ≡ v = tree_in-stands s b z v stays in
      ((stays, kz), subst (λ q. Apart q (tree_in b z)) (sym tree-now) (subst (λ w. Apart g.tree w) (sym same-z) found))

  -- the structures below other coordinates are as before
  pub KeepsBelow-set : KeepsBelow c cs a b old new st now x.at
  KeepsBelow-set other away =
      let s = kinds_of c in
      let Kept : Structure → Type 0 = λ z. KeepsNested (modes_of cs old) (modes_of cs new) z in
      let rest : elem_with other (walk_of s (tree_in a st)) ≡ elem_with other (g.sets.before ++ g.sets.after) =
      elem_with-rest other x (walk_of s (tree_in a st)) (walk_of s g.tree) g.sets away in
      let same-elem : elem_with other (walk_of s (tree_in b now)) ≡ elem_with other (walk_of s (tree_in a st)) =
      ap (λ t. elem_with other (walk_of s t)) tree-now ∙ elem_with-other other x (walk_of s (tree_in a st)) (walk_of s g.tree) g.sets away in
      let all : All Kept (inners (g.sets.before ++ g.sets.after)) =
      subst (All Kept) (sym (inners-append g.sets.before g.sets.after))
      (All-append Kept (inners g.sets.before) (inners g.sets.after) set-parts.0 set-parts.1) in (
        ap inner_of same-elem,
        subst (λ o. Kept (inner_of o)) (sym rest) (kept-found Kept other (g.sets.before ++ g.sets.after) (KeepsNested-empty cs old new same) all),
      )

  -- ---- entries

  entries-before : flat_map (λ e. under e.at (entries_held (λ y. entries_in (modes_of cs new) y) e.held)) g.sets.before
      ≡ flat_map (λ e. under e.at (entries_held (λ y. entries_in (modes_of cs old) y) e.held)) g.sets.before
  entries-before = entries-same (λ y. entries_in (modes_of cs old) y) (λ y. entries_in (modes_of cs new) y) g.sets.before
      (λ j d l. entries_in-kept cs old new _ same (set-parts.0 j d l))

  entries-after : flat_map (λ e. under e.at (entries_held (λ y. entries_in (modes_of cs new) y) e.held)) g.sets.after
      ≡ flat_map (λ e. under e.at (entries_held (λ y. entries_in (modes_of cs old) y) e.held)) g.sets.after
  entries-after = entries-same (λ y. entries_in (modes_of cs old) y) (λ y. entries_in (modes_of cs new) y) g.sets.after
      (λ j d l. entries_in-kept cs old new _ same (set-parts.1 j d l))

  -- its entries
  pub PutsEntry-step : (at : List ℕ) (v : ℕ) → PutsEntry at v (entries_below (λ y. entries_in (modes_of cs old) y) g.sets.was)
      (entries_held (λ y. entries_in (modes_of cs new) y) x.held)
      → PutsEntry (x.at ∷ at) v (entries_in (modes_of (c ∷ cs) (a ∷ old)) st) (entries_in (modes_of (c ∷ cs) (b ∷ new)) now)
  PutsEntry-step at v p =
      let F : Structure → List (List ℕ × ℕ) = λ y. entries_in (modes_of cs old) y in
      let G : Structure → List (List ℕ × ℕ) = λ y. entries_in (modes_of cs new) y in
      subst (λ t. PutsEntry (x.at ∷ at) v (entries_in (modes_of (c ∷ cs) (a ∷ old)) st) (entries_of G (walk_of (kinds_of c) t))) (sym tree-now)
      (PutsEntry-set F G x at v (walk_of (kinds_of c) (tree_in a st)) (walk_of (kinds_of c) g.tree) g.sets entries-before entries-after p)
