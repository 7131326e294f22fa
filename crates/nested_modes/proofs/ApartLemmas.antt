-- Structures that share nothing.
use Rattle.std.proofs.Common.{◌≡◌, List, [], ◌∷◌, ◌++◌, get_or, sym, subst}
use Rattle.std.specs.List.{All}
use Rattle.std.proofs.lemmas.List.Elements.{All-nil, All-cons, All-head, All-tail, All-append}
use Rattle.node_arena.specs.declared.elements.Structure.{Structure}
use Rattle.node_arena.specs.declared.elements.Top.TheVariants as tops
use Rattle.node_arena.specs.Modes.{Mode, walk_in, tree_in, inners, ApartBelow, AllApart}
use Rattle.node_arena.specs.Structures.{empty, walk_of, AreApart}
use Rattle.node_arena.proofs.ModesLemmas.{tree_in-empty}
use Rattle.node_arena.proofs.StructuresLemmas.{AreApart-flip}
use Rattle.nested_modes.proofs.ListsLemmas.{All-left, All-right}

-- each of the first structures is apart from each of the others
abbrev pub AreCrossApart : List Mode → List Structure → List Structure → Type 0
AreCrossApart ms xs ys = All (λ x. All (λ y. ApartBelow ms x y) ys) xs

-- to be apart goes both ways
pub ApartBelow-flip : (ms : List Mode) (x y : Structure) → ApartBelow ms x y → ApartBelow ms y x
ApartBelow-flip [] x y h = tt
ApartBelow-flip (m ∷ ms) x y h =
    (AreApart-flip (tree_in m.arena x) (tree_in m.arena y) h.0, λ k d l j e r. ApartBelow-flip ms _ _ (h.1 j e r k d l))

-- for lists too
pub AreCrossApart-flip : (ms : List Mode) (xs ys : List Structure) → AreCrossApart ms xs ys → AreCrossApart ms ys xs
AreCrossApart-flip ms xs ys h = λ k d l j e r. ApartBelow-flip ms _ _ (h j e r k d l)

-- an empty structure is apart from each one
pub ApartBelow-empty : (ms : List Mode) (x y : Structure) → x.top ≡ tops.Empty → ApartBelow ms x y
ApartBelow-empty [] x y e = tt
ApartBelow-empty (m ∷ ms) x y e =
    let t : tree_in m.arena x ≡ empty = tree_in-empty m.arena x e in
    subst (λ u. AreApart u (tree_in m.arena y) × All (λ a. All (λ b. ApartBelow ms a b) (inners (walk_in m y))) (inners (walk_of m.kinds u))) (sym t)
    (record { nodes = tt; runs = tt }, All-nil (λ a. All (λ b. ApartBelow ms a b) (inners (walk_in m y))))

-- structures that are apart, taken apart
pub append-AllApart : (ms : List Mode) (xs ys : List Structure) → AllApart ms (xs ++ ys) → AllApart ms xs × (AllApart ms ys × AreCrossApart ms xs ys)
append-AllApart ms [] ys h = (tt, (h, All-nil (λ x. All (λ y. ApartBelow ms x y) ys)))
append-AllApart ms (x ∷ xs) ys h =
    let r = append-AllApart ms xs ys h.1 in (
      (All-left (ApartBelow ms x) xs ys h.0, r.0),
      (r.1.0, All-cons (λ z. All (λ y. ApartBelow ms z y) ys) x xs (All-right (ApartBelow ms x) xs ys h.0) r.1.1),
    )

-- two lists of structures that are apart
pub AllApart-append : (ms : List Mode) (xs ys : List Structure) → AllApart ms xs → AllApart ms ys → AreCrossApart ms xs ys → AllApart ms (xs ++ ys)
AllApart-append ms [] ys h g c = g
AllApart-append ms (x ∷ xs) ys h g c = (
  All-append (ApartBelow ms x) xs ys h.0 (All-head (λ z. All (λ y. ApartBelow ms z y) ys) x xs c),
  AllApart-append ms xs ys h.1 g (All-tail (λ z. All (λ y. ApartBelow ms z y) ys) x xs c),
)

-- from the first of two lists
pub AreCrossApart-left : (ms : List Mode) (xs ys zs : List Structure) → AreCrossApart ms xs (ys ++ zs) → AreCrossApart ms xs ys
AreCrossApart-left ms xs ys zs h = λ k d l. All-left (λ y. ApartBelow ms (get_or xs k d) y) ys zs (h k d l)

-- from the second
pub AreCrossApart-right : (ms : List Mode) (xs ys zs : List Structure) → AreCrossApart ms xs (ys ++ zs) → AreCrossApart ms xs zs
AreCrossApart-right ms xs ys zs h = λ k d l. All-right (λ y. ApartBelow ms (get_or xs k d) y) ys zs (h k d l)

-- from both
pub AreCrossApart-append : (ms : List Mode) (xs ys zs : List Structure) → AreCrossApart ms xs ys → AreCrossApart ms xs zs → AreCrossApart ms xs (ys ++ zs)
AreCrossApart-append ms xs ys zs h g = λ k d l. All-append (λ y. ApartBelow ms (get_or xs k d) y) ys zs (h k d l) (g k d l)
