-- What holds of all elements of lists that are joined, and of the structures that elements hold.
use Rattle.std.proofs.Common.{◌≡◌, List, [], ◌∷◌, ◌++◌, refl, ap}
use Rattle.std.specs.List.{All}
use Rattle.std.proofs.lemmas.List.Elements.{All-nil, All-cons, All-head, All-tail}
use Rattle.node_arena.specs.declared.elements.Elem.{Elem}
use Rattle.node_arena.specs.declared.elements.Held.{Held}
use Rattle.node_arena.specs.declared.elements.Held.TheVariants.{Number, Inner}
use Rattle.node_arena.specs.declared.elements.Structure.{Structure}
use Rattle.node_arena.specs.Modes.{with_inner, inners}

-- the first of two lists
pub All-left : {X : Type 0} (P : X → Type 0) (xs ys : List X) → All P (xs ++ ys) → All P xs
All-left P [] ys h = All-nil P
All-left P (x ∷ xs) ys h = All-cons P x xs (All-head P x (xs ++ ys) h) (All-left P xs ys (All-tail P x (xs ++ ys) h))

-- the second of two lists
pub All-right : {X : Type 0} (P : X → Type 0) (xs ys : List X) → All P (xs ++ ys) → All P ys
All-right P [] ys h = h
All-right P (x ∷ xs) ys h = All-right P xs ys (All-tail P x (xs ++ ys) h)

-- what is held, and the rest
pub All-held : (P : Structure → Type 0) (h : Held) (rest : List Structure) → All P (with_inner h rest) → All P (with_inner h []) × All P rest
All-held P (Number v) rest g = (All-nil P, g)
All-held P (Inner st) rest g = (All-cons P st [] (All-head P st rest g) (All-nil P), All-tail P st rest g)

-- the structure that is held comes before the others
pub with_inner-append : (h : Held) (rest : List Structure) → with_inner h rest ≡ with_inner h [] ++ rest
with_inner-append (Number v) rest = refl
with_inner-append (Inner st) rest = refl

held-append : (h : Held) (xs ys zs : List Structure) → zs ≡ xs ++ ys → with_inner h zs ≡ with_inner h xs ++ ys
held-append (Number v) xs ys zs e = e
held-append (Inner st) xs ys zs e = ap (λ l. st ∷ l) e

-- the structures of two lists of elements
pub inners-append : (xs ys : List Elem) → inners (xs ++ ys) ≡ inners xs ++ inners ys
inners-append [] ys = refl
inners-append (x ∷ xs) ys = held-append x.held (inners xs) (inners ys) (inners (xs ++ ys)) (inners-append xs ys)
