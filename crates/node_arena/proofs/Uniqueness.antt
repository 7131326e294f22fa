-- An arena and the roots determine the trees.
use Rattle.std.proofs.Common.{◌≡◌, ℕ, List, ◌∷◌, Option, Some, None, refl, ap, ◌∙◌, sym}
use Rattle.node_arena.specs.Arenas.{NodeState, ArenaState, node_at}
use Rattle.node_arena.specs.Trees.{Trees, done, absent, node, roots, stored, Stands}

head-same : (x y : Option ℕ) (xs ys : List (Option ℕ)) → x ∷ xs ≡ y ∷ ys → x ≡ y
head-same x y xs ys e = cc

tail-same : (x y : Option ℕ) (xs ys : List (Option ℕ)) → x ∷ xs ≡ y ∷ ys → xs ≡ ys
tail-same x y xs ys e = cc

number-same : (i j : ℕ) → Some i ≡ Some j → i ≡ j
number-same i j e = cc

-- two rows of trees with the same roots that stand in one arena are the same
pub trees_unique : (a : ArenaState) (t u : Trees) → Stands a t → Stands a u → roots t ≡ roots u → t ≡ u
trees_unique a done done h k e = refl
trees_unique a done (absent u) h k e = cc
trees_unique a done (node j m r ls u) h k e = cc
trees_unique a (absent t) done h k e = cc
trees_unique a (absent t) (absent u) h k e = ap absent (trees_unique a t u h k (tail-same None None (roots t) (roots u) e))
trees_unique a (absent t) (node j m r ls u) h k e = let f = head-same _ _ _ _ e in cc
trees_unique a (node i k run ls t) done h g e = cc
trees_unique a (node i k run ls t) (absent u) h g e = let f = head-same _ _ _ _ e in cc
trees_unique a (node i k run ls t) (node j m r ls2 u) h g e =
    let n : i ≡ j = number-same i j (head-same _ _ _ _ e) in
    let at : Some (stored k run ls) ≡ Some (stored m r ls2) = sym h.0 ∙ ap (node_at a) n ∙ g.0 in
    let same : stored k run ls ≡ stored m r ls2 = cc (at) in
    let kinds : k ≡ m = ap (λ (v : NodeState). v.kind) same in
    let runs : run ≡ r = ap (λ (v : NodeState). v.run) same in
    let below : ls ≡ ls2 = trees_unique a ls ls2 h.1 g.1 (ap (λ (v : NodeState). v.links) same) in
    let beside : t ≡ u = trees_unique a t u h.2 g.2 (tail-same _ _ _ _ e) in
    ap (λ v. node v k run ls t) n ∙ ap (λ v. node j v run ls t) kinds ∙ ap (λ v. node j m v ls t) runs
    ∙ ap (λ v. node j m r v t) below ∙ ap (node j m r ls2) beside
