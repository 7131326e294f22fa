-- Structures that are as before in other arenas.
use Rattle.std.proofs.Common.{◌≡◌, ℕ, List, [], ◌∷◌, ◌++◌, length, flat_map, refl, ap, ◌∙◌, sym, subst, arith}
use Rattle.std.specs.List.{All}
use Rattle.std.proofs.lemmas.List.Elements.{All-nil, All-cons, All-head, All-tail}
use Rattle.dt_model.specs.declared.declared_tensors.Schema.{Schema}
use Rattle.node_arena.specs.declared.elements.Elem.{Elem}
use Rattle.node_arena.specs.declared.elements.Held.{Held}
use Rattle.node_arena.specs.declared.elements.Held.TheVariants.{Number, Inner}
use Rattle.node_arena.specs.declared.elements.Structure.{Structure}
use Rattle.node_arena.specs.Arenas.{ArenaState}
use Rattle.node_arena.specs.Kinds.{kinds_of, root_of}
use Rattle.node_arena.specs.Modes.{tree_in, with_inner, inners, ApartBelow, AllApart, IsHeldFor, IsNested, under, entries_held, entries_in}
use Rattle.node_arena.specs.Structures.{Tree, empty, walk_of, AreApart, IsStanding, IsStructure}
use Rattle.node_arena.proofs.ModesLemmas.{tree_in-stands, tree_in-empty}
use Rattle.nested_modes.specs.Codes.{modes_of}
use Rattle.nested_modes.specs.Paths.{empty_structure}
use Rattle.nested_modes.specs.Frames.{KeepsNested}
use Rattle.nested_modes.proofs.ListsLemmas.{All-held}

-- an empty structure is as before
pub KeepsNested-empty : (cs : List Schema) (old new : List ArenaState) → length new ≡ length old
    → KeepsNested (modes_of cs old) (modes_of cs new) empty_structure
KeepsNested-empty [] old new e = tt
KeepsNested-empty (c ∷ cs) [] [] e = tt
KeepsNested-empty (c ∷ cs) [] (b ∷ new) e = absurd (omega arith)
KeepsNested-empty (c ∷ cs) (a ∷ old) [] e = absurd (omega arith)
KeepsNested-empty (c ∷ cs) (a ∷ old) (b ∷ new) e =
    let s = kinds_of c in
    let t : tree_in a empty_structure ≡ empty = tree_in-empty a empty_structure refl in
    let Kept : Structure → Type 0 = λ y. KeepsNested (modes_of cs old) (modes_of cs new) y in
    let stands : IsStanding s b empty_structure empty = record { top = refl; nodes = tt; once = tt; run = tt; counted = refl } in
    subst (λ u. IsStanding s b empty_structure u × All Kept (inners (walk_of s u))) (sym t) (stands, All-nil Kept)

-- structures that are apart and both kept are apart
pub ApartBelow-kept : (cs : List Schema) (old new : List ArenaState) (x y : Structure) → length new ≡ length old
    → KeepsNested (modes_of cs old) (modes_of cs new) x → KeepsNested (modes_of cs old) (modes_of cs new) y
    → ApartBelow (modes_of cs old) x y → ApartBelow (modes_of cs new) x y
ApartBelow-kept [] old new x y e kx ky h = tt
ApartBelow-kept (c ∷ cs) [] [] x y e kx ky h = tt
ApartBelow-kept (c ∷ cs) [] (b ∷ new) x y e kx ky h = absurd (omega arith)
ApartBelow-kept (c ∷ cs) (a ∷ old) [] x y e kx ky h = tt
ApartBelow-kept (c ∷ cs) (a ∷ old) (b ∷ new) x y e kx ky h =
    let s = kinds_of c in
    let ns = modes_of cs new in
    let ex : tree_in b x ≡ tree_in a x = tree_in-stands s b x (tree_in a x) kx.0 in
    let ey : tree_in b y ≡ tree_in a y = tree_in-stands s b y (tree_in a y) ky.0 in
    let same : length new ≡ length old = omega arith in
    let Apart : Tree → Tree → Type 0 = λ t u. AreApart t u × All (λ p. All (λ q. ApartBelow ns p q) (inners (walk_of s u))) (inners (walk_of s t)) in
    let was : Apart (tree_in a x) (tree_in a y) =
    (h.0, λ k d l j r g. ApartBelow-kept cs old new _ _ same (kx.1 k d l) (ky.1 j r g) (h.1 k d l j r g)) in
    subst (λ t. Apart t (tree_in b y)) (sym ex) (subst (λ u. Apart (tree_in a x) u) (sym ey) was)

-- structures that are apart and all kept are apart
pub AllApart-kept : (cs : List Schema) (old new : List ArenaState) (xs : List Structure) → length new ≡ length old
    → All (λ x. KeepsNested (modes_of cs old) (modes_of cs new) x) xs → AllApart (modes_of cs old) xs → AllApart (modes_of cs new) xs
AllApart-kept cs old new [] e k h = tt
AllApart-kept cs old new (x ∷ xs) e k h =
    let Kept : Structure → Type 0 = λ z. KeepsNested (modes_of cs old) (modes_of cs new) z in
    let first = All-head Kept x xs k in
    let rest = All-tail Kept x xs k in
    (λ j d l. ApartBelow-kept cs old new x _ e first (rest j d l) (h.0 j d l), AllApart-kept cs old new xs e rest h.1)

-- what is held is kept, if what it says of a structure is
held-kept : (cs : List Schema) (old new : List ArenaState) (P Q : Structure → Type 0) (h : Held) → length new ≡ length old
    → All (λ x. P x → Q x) (with_inner h []) → IsHeldFor (modes_of cs old) P h → IsHeldFor (modes_of cs new) Q h
held-kept [] old new P Q (Number v) e f g = tt
held-kept [] old new P Q (Inner st) e f g = g
held-kept (c ∷ cs) [] [] P Q (Number v) e f g = tt
held-kept (c ∷ cs) [] [] P Q (Inner st) e f g = g
held-kept (c ∷ cs) [] (b ∷ new) P Q h e f g = absurd (omega arith)
held-kept (c ∷ cs) (a ∷ old) [] P Q h e f g = absurd (omega arith)
held-kept (c ∷ cs) (a ∷ old) (b ∷ new) P Q (Number v) e f g = g
held-kept (c ∷ cs) (a ∷ old) (b ∷ new) P Q (Inner st) e f g = (g.0, All-head (λ x. P x → Q x) st [] f g.1)

-- so for all elements
pub holds-kept : (cs : List Schema) (old new : List ArenaState) (P Q : Structure → Type 0) (es : List Elem) → length new ≡ length old
    → All (λ x. P x → Q x) (inners es) → All (λ e. IsHeldFor (modes_of cs old) P e.held) es → All (λ e. IsHeldFor (modes_of cs new) Q e.held) es
holds-kept cs old new P Q [] e f h = All-nil (λ x. IsHeldFor (modes_of cs new) Q x.held)
holds-kept cs old new P Q (x ∷ es) e f h =
    let r = All-held (λ z. P z → Q z) x.held (inners es) f in
    let Was : Elem → Type 0 = λ z. IsHeldFor (modes_of cs old) P z.held in
    let Is : Elem → Type 0 = λ z. IsHeldFor (modes_of cs new) Q z.held in
    All-cons Is x es (held-kept cs old new P Q x.held e r.0 (All-head Was x es h)) (holds-kept cs old new P Q es e r.1 (All-tail Was x es h))

-- a structure that is kept is one of the modes as they are now
pub IsNested-kept : (cs : List Schema) (old new : List ArenaState) (x : Structure) → length new ≡ length old
    → KeepsNested (modes_of cs old) (modes_of cs new) x → IsNested (modes_of cs old) x → IsNested (modes_of cs new) x
IsNested-kept [] old new x e k h = absurd h
IsNested-kept (c ∷ cs) [] new x e k h = absurd h
IsNested-kept (c ∷ cs) (a ∷ old) [] x e k h = absurd (omega arith)
IsNested-kept (c ∷ cs) (a ∷ old) (b ∷ new) x e k h =
    let s = kinds_of c in
    let ns = modes_of cs new in
    let same : length new ≡ length old = omega arith in
    let ex : tree_in b x ≡ tree_in a x = tree_in-stands s b x (tree_in a x) k.0 in
    let es = walk_of s (tree_in a x) in
    let structure : IsStructure s (root_of c) b x (tree_in a x) = record { stands = k.0; conforms = h.structure.conforms } in
    let holds : All (λ z. IsHeldFor ns (λ y. IsNested ns y) z.held) es = holds-kept cs old new (λ y. IsNested (modes_of cs old) y) (λ y. IsNested ns y) es
    same (λ j d l g. IsNested-kept cs old new _ same (k.1 j d l) g) h.holds in
    let apart : AllApart ns (inners es) = AllApart-kept cs old new (inners es) same k.1 h.apart in
    record {
      structure = subst (λ t. IsStructure s (root_of c) b x t) (sym ex) structure;
      holds = subst (λ t. All (λ z. IsHeldFor ns (λ y. IsNested ns y) z.held) (walk_of s t)) (sym ex) holds;
      apart = subst (λ t. AllApart ns (inners (walk_of s t))) (sym ex) apart;
    }

-- ---- entries

held-entries : (F G : Structure → List (List ℕ × ℕ)) (h : Held) → All (λ x. G x ≡ F x) (with_inner h []) → entries_held G h ≡ entries_held F h
held-entries F G (Number v) e = refl
held-entries F G (Inner st) e = All-head (λ x. G x ≡ F x) st [] e

-- elements have the entries of what they hold
pub entries-same : (F G : Structure → List (List ℕ × ℕ)) (es : List Elem) → All (λ x. G x ≡ F x) (inners es)
    → flat_map (λ e. under e.at (entries_held G e.held)) es ≡ flat_map (λ e. under e.at (entries_held F e.held)) es
entries-same F G [] h = refl
entries-same F G (x ∷ es) h =
    let r = All-held (λ z. G z ≡ F z) x.held (inners es) h in
    ap (λ l. under x.at l ++ flat_map (λ e. under e.at (entries_held G e.held)) es) (held-entries F G x.held r.0)
    ∙ ap (λ l. under x.at (entries_held F x.held) ++ l) (entries-same F G es r.1)

-- a structure that is kept has the entries that it had
pub entries_in-kept : (cs : List Schema) (old new : List ArenaState) (x : Structure) → length new ≡ length old
    → KeepsNested (modes_of cs old) (modes_of cs new) x → entries_in (modes_of cs new) x ≡ entries_in (modes_of cs old) x
entries_in-kept [] old new x e k = refl
entries_in-kept (c ∷ cs) [] [] x e k = refl
entries_in-kept (c ∷ cs) [] (b ∷ new) x e k = absurd (omega arith)
entries_in-kept (c ∷ cs) (a ∷ old) [] x e k = absurd (omega arith)
entries_in-kept (c ∷ cs) (a ∷ old) (b ∷ new) x e k =
    let s = kinds_of c in
    let same : length new ≡ length old = omega arith in
    let F : Structure → List (List ℕ × ℕ) = λ y. entries_in (modes_of cs old) y in
    let G : Structure → List (List ℕ × ℕ) = λ y. entries_in (modes_of cs new) y in
    let ex : tree_in b x ≡ tree_in a x = tree_in-stands s b x (tree_in a x) k.0 in
    ap (λ t. flat_map (λ e. under e.at (entries_held G e.held)) (walk_of s t)) ex
    ∙ entries-same F G (walk_of s (tree_in a x)) (λ j d l. entries_in-kept cs old new _ same (k.1 j d l))
