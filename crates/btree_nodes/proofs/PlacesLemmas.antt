-- The place of an element in the walk of a woven node.
use Rattle.std.proofs.Common.{◌≡◌, ◌≤◌, ℕ, suc, List, [], ◌∷◌, ◌++◌, length, refl, ap, ◌∙◌, subst, arith, append_assoc, ltb, cond, Bool, true, false}
use Rattle.node_arena.specs.declared.elements.Elem.{Elem}
use Rattle.node_arena.specs.Arenas.{place_in}
use Rattle.node_arena.specs.Walks.{weave, joined}
use Rattle.node_arena.specs.Conforming.{IsRising}
use Rattle.node_arena.specs.Insertions.{put_in}
use Rattle.node_arena.proofs.PutInLemmas.{AllBelow, Reaches, AllBelow-append, AllBelow-rising, IsRising-suffix, IsRising-prefix, put_in-past, put_in-before}
use Rattle.btree_nodes.proofs.WeaveLemmas.{tail, walk-child}

low-step : (b : Bool) (n m : ℕ) → n ≤ m → cond b (suc n) 0 ≤ suc m
low-step true n m h = omega arith
low-step false n m h = omega arith

-- the place in a run is at most its length
pub place_in-low : (n : ℕ) (xs : List Elem) → place_in n xs ≤ length xs
place_in-low n [] = omega arith
place_in-low n (x ∷ xs) = low-step (ltb x.at n) (place_in n xs) (length xs) (place_in-low n xs)

-- all elements of the node and its children before the place are below
pub AllBelow-weave : (n : ℕ) (run : List Elem) (ls : List (List Elem)) (ys : List Elem) → length ls ≡ length run → AllBelow n run
    → IsRising (joined (weave run ls) ++ ys) → AllBelow n (joined (weave run ls))
AllBelow-weave n [] [] ys l h up = tt
AllBelow-weave n [] (w ∷ ls) ys l h up = absurd (omega arith)
AllBelow-weave n (x ∷ run) [] ys l h up = absurd (omega arith)
AllBelow-weave n (x ∷ run) (w ∷ ls) ys l h up =
    let whole : IsRising (w ++ (x ∷ joined (weave run ls) ++ ys)) = subst IsRising (append_assoc w (x ∷ joined (weave run ls)) ys) up in
    let later : IsRising (joined (weave run ls) ++ ys) = IsRising-suffix (x ∷ []) (joined (weave run ls) ++ ys)
    (IsRising-suffix w (x ∷ joined (weave run ls) ++ ys) whole) in
    AllBelow-append n w (x ∷ joined (weave run ls)) (AllBelow-rising n w x (joined (weave run ls) ++ ys) whole (omega (arith, h.0)))
    (h.0, AllBelow-weave n run ls ys (omega arith) h.1 later)

-- what follows the child at the place reaches x
pub Reaches-tail : (n : ℕ) (run : List Elem) (ls : List (List Elem)) → length ls ≡ length run → Reaches n run → Reaches n (joined (tail run ls))
Reaches-tail n [] [] l h = tt
Reaches-tail n [] (w ∷ ls) l h = absurd (omega arith)
Reaches-tail n (x ∷ run) ls l h = h

-- what is put into the child at the place is put into the walk
pub walk-put : (x : Elem) (before after : List Elem) (ls ms : List (List Elem)) (w : List Elem) → length ls ≡ length before → length ms ≡ length after
    → AllBelow x.at before → Reaches x.at after → IsRising (joined (weave (before ++ after) (ls ++ w ∷ ms)))
    → put_in x (joined (weave (before ++ after) (ls ++ w ∷ ms))) ≡ joined (weave before ls) ++ (put_in x w ++ joined (tail after ms))
walk-put x before after ls ms w h k under reach up =
    let is = walk-child before after ls ms w h k in
    ap (put_in x) is
    ∙ put_in-past x (joined (weave before ls)) (w ++ joined (tail after ms))
    (AllBelow-weave x.at before ls (w ++ joined (tail after ms)) h under (subst IsRising is up))
    ∙ ap (λ v. joined (weave before ls) ++ v) (put_in-before x w (joined (tail after ms)) (Reaches-tail x.at after ms k reach))

-- the walk of the child at the place rises
pub walk-child-rising : (before after : List Elem) (ls ms : List (List Elem)) (w : List Elem) → length ls ≡ length before → length ms ≡ length after
    → IsRising (joined (weave (before ++ after) (ls ++ w ∷ ms))) → IsRising w
walk-child-rising before after ls ms w h k up =
    IsRising-prefix w (joined (tail after ms)) (IsRising-suffix (joined (weave before ls)) (w ++ joined (tail after ms))
    (subst IsRising (walk-child before after ls ms w h k) up))

-- a run with no links
pub walk-bare : (run : List Elem) → joined (weave run []) ≡ run
walk-bare [] = refl
walk-bare (x ∷ run) = ap (λ w. x ∷ w) (walk-bare run)
