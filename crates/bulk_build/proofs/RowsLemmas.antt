-- Links in a row: places, walks, levels and spines.
use Rattle.std.proofs.Common.{◌≡◌, ℕ, max, List, [], ◌∷◌, ◌++◌, map, Option, Some, None, refl, ap, sym, subst, arith, append-nil}
use Rattle.node_arena.specs.declared.elements.Elem.{Elem}
use Rattle.node_arena.specs.declared.kinds.NodeKind.{NodeKind}
use Rattle.node_arena.specs.Kinds.{shape_at}
use Rattle.node_arena.specs.Trees.{Trees, done, absent, node, roots}
use Rattle.node_arena.specs.Walks.{Part, item, link, parts, joined, walk, walks}
use Rattle.node_arena.specs.Conforming.{Hang, IsLevel, spine, Place}
use Rattle.node_arena.proofs.RowsLemmas.{beside}

no-nil : (p : Place) (ps : List Place) → p ∷ ps ≡ [] → ⊥
no-nil p ps h = cc

-- nothing hangs where there is no place
pub hang-none : (s : List NodeKind) (u : Trees) → Hang s [] u → u ≡ done
hang-none s done h = refl
hang-none s (absent rest) h = absurd h
hang-none s (node i k run ls rest) h = absurd h

-- one tree before others
pub hang-beside : (s : List NodeKind) (p : Place) (ps : List Place) (u v : Trees) → Hang s (p ∷ []) u → Hang s ps v → Hang s (p ∷ ps) (beside u v)
hang-beside s p ps done v h g = absurd (no-nil p [] h)
hang-beside s p ps (absent u) v h g = (h.0, subst (λ w. Hang s ps (beside w v)) (sym (hang-none s u h.1)) g)
hang-beside s p ps (node i k run ls u) v h g = (h.0, h.1, h.2, h.3, subst (λ w. Hang s ps (beside w v)) (sym (hang-none s u h.4)) g)

-- levels of two rows
pub level-beside : (s : List NodeKind) (t u : Trees) → IsLevel s t → IsLevel s u → IsLevel s (beside t u)
level-beside s done u h g = g
level-beside s (absent t) u h g = level-beside s t u h g
level-beside s (node i k run ls t) u h g = (h.0, h.1, level-beside s t u h.2 g)

-- the greatest spine of two rows
pub spine-beside : (s : List NodeKind) (t u : Trees) → spine s (beside t u) ≡ max (spine s t) (spine s u)
spine-beside s done u = omega arith
spine-beside s (absent t) u = spine-beside s t u
spine-beside s (node i k run ls t) u =
    let ih : spine s (beside t u) ≡ max (spine s t) (spine s u) = spine-beside s t u in omega arith

-- elements before other parts
pub joined-items : (run : List Elem) (ps : List (Part (List Elem))) → joined (map item run ++ ps) ≡ run ++ joined ps
joined-items [] ps = refl
joined-items (x ∷ xs) ps = ap (λ w. x ∷ w) (joined-items xs ps)

-- links alone
pub joined-links : (s : List NodeKind) (t : Trees) → joined (map link (walks s t)) ≡ walk s t
joined-links s done = refl
joined-links s (absent rest) = joined-links s rest
joined-links s (node i k run ls rest) = ap (λ w. joined (parts (shape_at s k) run (walks s ls)) ++ w) (joined-links s rest)

-- a row of one link has one walk
pub walks-one : (s : List NodeKind) (t : Trees) (r : Option ℕ) → roots t ≡ r ∷ [] → walks s t ≡ walk s t ∷ []
walks-one s done r e = cc
walks-one s (absent t) r e = none t (tail-of None r (roots t) e)
  where
    tail-of : (x y : Option ℕ) (xs : List (Option ℕ)) → x ∷ xs ≡ y ∷ [] → xs ≡ []
    tail-of x y xs e = cc

    none : (u : Trees) → roots u ≡ [] → walks s (absent u) ≡ walk s (absent u) ∷ []
    none done e = refl
    none (absent u) e = cc
    none (node n m r l u) e = cc
walks-one s (node i k run ls t) r e = one t (tail-of (Some i) r (roots t) e)
  where
    tail-of : (x y : Option ℕ) (xs : List (Option ℕ)) → x ∷ xs ≡ y ∷ [] → xs ≡ []
    tail-of x y xs e = cc

    one : (u : Trees) → roots u ≡ [] → walks s (node i k run ls u) ≡ walk s (node i k run ls u) ∷ []
    one done e = ap (λ w. w ∷ []) (sym (append-nil (joined (parts (shape_at s k) run (walks s ls)))))
    one (absent u) e = cc
    one (node n m r l u) e = cc
