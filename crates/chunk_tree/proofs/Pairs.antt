-- Two links in a row.
use Rattle.std.proofs.Common.{◌≡◌, ◌≤◌, ◌+◌, ℕ, suc, max, List, [], ◌∷◌, ◌++◌, map, length, get_or, None, refl, ap, ◌∙◌, sym, subst, arith, append-nil}
use Rattle.node_arena.specs.declared.elements.Elem.{Elem}
use Rattle.node_arena.specs.declared.kinds.NodeKind.{NodeKind}
use Rattle.node_arena.specs.declared.kinds.Shape.TheVariants.{Ends}
use Rattle.node_arena.specs.Trees.{Trees, done, absent, node, roots, Avoids}
use Rattle.node_arena.specs.Kinds.{shape_at, kind_at}
use Rattle.node_arena.specs.Walks.{link, parts, joined, walk, walks}
use Rattle.node_arena.specs.Conforming.{Hang, IsLevel, IsLevelAt, spine, spine_by, places, Place, whole, least_of}
use Rattle.node_arena.proofs.PlacesLemmas.{hang-none}
use Rattle.node_arena.proofs.RowsLemmas.{beside}
use Rattle.node_arena.proofs.WalksLemmas.{joined-items, joined-links}

-- the first tree of a row
abbrev pub head_of : Trees → Trees
head_of done = done
head_of (absent rest) = absent done
head_of (node i k run ls rest) = node i k run ls done

-- the others
abbrev pub tail_of : Trees → Trees
tail_of done = done
tail_of (absent rest) = rest
tail_of (node i k run ls rest) = rest

-- a row is its first tree beside the others
pub parted : (t : Trees) → t ≡ beside (head_of t) (tail_of t)
parted done = refl
parted (absent t) = refl
parted (node i k run ls t) = refl

-- no node of either is no node of the row
pub parts-avoid : (i : ℕ) (t : Trees) → Avoids i t → Avoids i (head_of t) × Avoids i (tail_of t)
parts-avoid i done h = (tt, tt)
parts-avoid i (absent t) h = (tt, h)
parts-avoid i (node j k run ls t) h = ((h.0, h.1, tt), h.2)

-- nothing beside it
pub beside-done : (t : Trees) → beside t done ≡ t
beside-done done = refl
beside-done (absent t) = ap absent (beside-done t)
beside-done (node i k run ls t) = ap (node i k run ls) (beside-done t)

-- the first root
pub roots-head : (t : Trees) → get_or (roots (head_of t)) 0 None ≡ get_or (roots t) 0 None
roots-head done = refl
roots-head (absent t) = refl
roots-head (node i k run ls t) = refl

-- the second root
pub roots-tail : (t : Trees) → get_or (roots (tail_of t)) 0 None ≡ get_or (roots t) 1 None
roots-tail done = refl
roots-tail (absent t) = refl
roots-tail (node i k run ls t) = refl

-- the row has one tree
abbrev pub One : Trees → Type 0
One t = length (roots t) ≡ 1

-- no root, no tree
pub no-more : (t : Trees) → length (roots t) ≡ 0 → t ≡ done
no-more done h = refl
no-more (absent t) h = absurd (omega arith)
no-more (node i k run ls t) h = absurd (omega arith)

no-nil : (p : Place) (ps : List Place) → p ∷ ps ≡ [] → ⊥
no-nil p ps h = cc

module _ (s : List NodeKind) where
  pub walk-two : (i k p q : ℕ) (run : List Elem) (u v : Trees) → shape_at s k ≡ Ends p q → One u
      → walk s (node i k run (beside u v) done) ≡ walk s u ++ (run ++ walk s v)
  walk-two i k p q run done v e o = absurd (omega arith)
  walk-two i k p q run (absent u) v e o =
      let none : u ≡ done = no-more u (omega arith) in
      subst (λ w. walk s (node i k run (beside (absent w) v) done) ≡ walk s (absent w) ++ (run ++ walk s v)) (sym none)
      (append-nil (joined (parts (shape_at s k) run ([] ∷ walks s v))) ∙ ap (λ sh. joined (parts sh run ([] ∷ walks s v))) e
      ∙ joined-items run (map link (walks s v)) ∙ ap (λ w. run ++ w) (joined-links s v))
  walk-two i k p q run (node j m r l u) v e o =
      let none : u ≡ done = no-more u (omega arith) in
      let w = joined (parts (shape_at s m) r (walks s l)) in
      subst (λ u. walk s (node i k run (beside (node j m r l u) v) done) ≡ walk s (node j m r l u) ++ (run ++ walk s v)) (sym none)
      (append-nil (joined (parts (shape_at s k) run (w ∷ walks s v))) ∙ ap (λ sh. joined (parts sh run (w ∷ walks s v))) e
      ∙ ap (λ z. w ++ z) (joined-items run (map link (walks s v)) ∙ ap (λ z. run ++ z) (joined-links s v))
      ∙ ap (λ z. z ++ (run ++ walk s v)) (sym (append-nil w)))

  pub hang-parts : (p : Place) (ps : List Place) (t : Trees) → Hang s (p ∷ ps) t → Hang s (p ∷ []) (head_of t) × Hang s ps (tail_of t)
  hang-parts p ps done h = absurd (no-nil p ps h)
  hang-parts p ps (absent t) h = ((h.0, refl), h.1)
  hang-parts p ps (node i k run ls t) h = ((h.0, h.1, h.2, h.3, refl), h.4)

  pub hang-join : (p : Place) (ps : List Place) (u v : Trees) → Hang s (p ∷ []) u → Hang s ps v → Hang s (p ∷ ps) (beside u v)
  hang-join p ps done v h g = absurd (no-nil p [] h)
  hang-join p ps (absent u) v h g =
      (h.0, subst (λ w. Hang s ps (beside w v)) (sym (hang-none s u h.1)) g)
  hang-join p ps (node i k run ls u) v h g =
      (h.0, h.1, h.2, h.3, subst (λ w. Hang s ps (beside w v)) (sym (hang-none s u h.4)) g)

  pub hang-one : (p : Place) (t : Trees) → Hang s (p ∷ []) t → One t
  hang-one p done h = absurd (no-nil p [] h)
  hang-one p (absent t) h = ap (λ u. suc (length (roots u))) (hang-none s t h.1)
  hang-one p (node i k run ls t) h = ap (λ u. suc (length (roots u))) (hang-none s t h.4)

  pub level-join : (t u : Trees) → IsLevel s t → IsLevel s u → IsLevel s (beside t u)
  level-join done u h g = g
  level-join (absent t) u h g = level-join t u h g
  level-join (node i k run ls t) u h g = (h.0, h.1, level-join t u h.2 g)

  pub level-parts : (t u : Trees) → IsLevel s (beside t u) → IsLevel s t × IsLevel s u
  level-parts done u h = (tt, h)
  level-parts (absent t) u h = level-parts t u h
  level-parts (node i k run ls t) u h = let r = level-parts t u h.2 in ((h.0, h.1, r.0), r.1)

  pub spine-join : (t u : Trees) → spine s (beside t u) ≡ max (spine s t) (spine s u)
  spine-join done u = omega arith
  spine-join (absent t) u = spine-join t u
  spine-join (node i k run ls t) u =
      let ih : spine s (beside t u) ≡ max (spine s t) (spine s u) = spine-join t u in omega arith

  pub spine-ends : (i k p q : ℕ) (run : List Elem) (ls : Trees) → shape_at s k ≡ Ends p q → spine s (node i k run ls done) ≡ 1 + spine s ls
  spine-ends i k p q run ls e =
      let m : max (1 + spine s ls) 0 ≡ 1 + spine s ls = omega arith in
      ap (λ sh. max (spine_by sh (spine s ls)) 0) e ∙ m

  pub level-ends : (k p q : ℕ) (ls : Trees) → shape_at s k ≡ Ends p q → IsLevelAt s (shape_at s k) ls
  level-ends k p q ls e = subst (λ sh. IsLevelAt s sh ls) (sym e) tt

  pub least-whole : (p q r : ℕ) → shape_at s p ≡ Ends q r → (kind_at s p).lo ≡ 1 → (whole s p).least ≤ 1
  least-whole p q r e lo = subst (λ sh. least_of (kind_at s p) sh ≤ 1) (sym e) (omega arith)

  -- the node may have another run and other links
  pub hang-node : (i k p q : ℕ) (run run' : List Elem) (ls ls' : Trees) → shape_at s k ≡ Ends p q → 1 ≤ length run' → length run' ≤ (kind_at s k).hi
      → (Hang s (whole s p ∷ whole s q ∷ []) ls → Hang s (whole s p ∷ whole s q ∷ []) ls') → (r : Place) → r.least ≤ 1
      → Hang s (r ∷ []) (node i k run ls done) → Hang s (r ∷ []) (node i k run' ls' done)
  hang-node i k p q run run' ls ls' e low high f r least h = (
    h.0,
    omega arith,
    high,
    subst (λ sh. Hang s (places s sh k run' ls') ls') (sym e) (f (subst (λ sh. Hang s (places s sh k run ls) ls) e h.3)),
    h.4,
  )
