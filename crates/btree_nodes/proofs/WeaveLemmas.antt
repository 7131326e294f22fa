-- A woven node that is parted, and its walk.
use Rattle.std.proofs.Common.{◌≡◌, ◌+◌, List, [], ◌∷◌, ◌++◌, length, refl, ap, ◌∙◌, sym, arith, append_assoc}
use Rattle.node_arena.specs.declared.elements.Elem.{Elem}
use Rattle.node_arena.specs.Walks.{Part, item, link, weave, joined}

-- the parts of a node are those of its lower part, one element, and those of its upper part
pub weave-parted : {L : Type 0} (lower : List Elem) (e : Elem) (upper : List Elem) (ls ms : List L) → length ls ≡ length lower + 1
    → weave (lower ++ e ∷ upper) (ls ++ ms) ≡ weave lower ls ++ item e ∷ weave upper ms
weave-parted [] e upper [] ms h = absurd (omega arith)
weave-parted [] e upper (l ∷ []) ms h = refl
weave-parted [] e upper (l ∷ m ∷ ls) ms h = absurd (omega arith)
weave-parted (x ∷ lower) e upper [] ms h = absurd (omega arith)
weave-parted (x ∷ lower) e upper (l ∷ ls) ms h = ap (λ ps. link l ∷ item x ∷ ps) (weave-parted lower e upper ls ms (omega arith))

-- the elements of parts, one after another
pub joined-append : (ps qs : List (Part (List Elem))) → joined (ps ++ qs) ≡ joined ps ++ joined qs
joined-append [] qs = refl
joined-append (item e ∷ ps) qs = ap (λ w. e ∷ w) (joined-append ps qs)
joined-append (link w ∷ ps) qs = ap (λ v. w ++ v) (joined-append ps qs) ∙ sym (append_assoc w (joined ps) (joined qs))

-- the walk of a node that is parted
pub walk-parted : (lower : List Elem) (e : Elem) (upper : List Elem) (ls ms : List (List Elem)) → length ls ≡ length lower + 1
    → joined (weave (lower ++ e ∷ upper) (ls ++ ms)) ≡ joined (weave lower ls) ++ e ∷ joined (weave upper ms)
walk-parted lower e upper ls ms h = ap joined (weave-parted lower e upper ls ms h) ∙ joined-append (weave lower ls) (item e ∷ weave upper ms)

-- one child takes the place of another, or two children with an element between them take its place
pub weave-child : {L : Type 0} (before after : List Elem) (ls ms : List L) (l : L) → length ls ≡ length before → length ms ≡ length after
    → weave (before ++ after) (ls ++ l ∷ ms) ≡ weave before ls ++ weave after (l ∷ ms)
weave-child [] after [] ms l h k = refl
weave-child [] after (m ∷ ls) ms l h k = absurd (omega arith)
weave-child (x ∷ before) after [] ms l h k = absurd (omega arith)
weave-child (x ∷ before) after (m ∷ ls) ms l h k = ap (λ ps. link m ∷ item x ∷ ps) (weave-child before after ls ms l (omega arith) k)

-- what stands after the child
abbrev pub tail : {L : Type 0} → List Elem → List L → List (Part L)
tail [] ms = []
tail (x ∷ xs) ms = item x ∷ weave xs ms

-- the first child, and what stands behind it
pub weave-first : {L : Type 0} (xs : List Elem) (ms : List L) (l : L) → length ms ≡ length xs → weave xs (l ∷ ms) ≡ link l ∷ tail xs ms
weave-first [] [] l h = refl
weave-first [] (m ∷ ms) l h = absurd (omega arith)
weave-first (x ∷ xs) ms l h = refl

-- a child's walk stands in the node's walk at its place
pub walk-child : (before after : List Elem) (ls ms : List (List Elem)) (w : List Elem) → length ls ≡ length before → length ms ≡ length after
    → joined (weave (before ++ after) (ls ++ w ∷ ms)) ≡ joined (weave before ls) ++ (w ++ joined (tail after ms))
walk-child before after ls ms w h k =
    ap joined (weave-child before after ls ms w h k)
    ∙ joined-append (weave before ls) (weave after (w ∷ ms))
    ∙ ap (λ ps. joined (weave before ls) ++ joined ps) (weave-first after ms w k)

-- two children with an element between them
pub walk-two : (before after : List Elem) (e : Elem) (ls ms : List (List Elem)) (v w : List Elem) → length ls ≡ length before → length ms ≡ length after
    → joined (weave (before ++ e ∷ after) (ls ++ v ∷ w ∷ ms)) ≡ joined (weave before ls) ++ ((v ++ e ∷ w) ++ joined (tail after ms))
walk-two before after e ls ms v w h k =
    ap joined (weave-child before (e ∷ after) ls (w ∷ ms) v h (omega arith))
    ∙ joined-append (weave before ls) (weave (e ∷ after) (v ∷ w ∷ ms))
    ∙ ap (λ ps. joined (weave before ls) ++ (v ++ e ∷ joined ps)) (weave-first after ms w k)
    ∙ ap (λ u. joined (weave before ls) ++ u) (sym (append_assoc v (e ∷ w) (joined (tail after ms))))
