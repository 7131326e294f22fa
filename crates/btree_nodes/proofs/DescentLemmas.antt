-- What the descent answers, in terms of what it has read of the node.
use Rattle.std.proofs.Common.{◌≡◌, ◌≤◌, ◌+◌, ◌-◌, ℕ, List, length, take, drop, get_or, Option, Some, None, IsSomeAnd, IfSome, ap, ◌∙◌, sym, subst, refl, arith}
use Rattle.std.specs.List.{insert}
use Rattle.node_arena.specs.declared.elements.Elem.{Elem}
use Rattle.node_arena.specs.declared.kinds.NodeKind.{NodeKind}
use Rattle.node_arena.specs.Arenas.{ArenaState, node_at, place_in, with_link}
use Rattle.node_arena.specs.Kinds.{kind_at}
use Rattle.node_arena.specs.Trees.{Trees, done, node, roots, stored}
use Rattle.node_arena.specs.Conforming.{height}
use Rattle.node_arena.proofs.RowsLemmas.{beside}
use Rattle.btree_nodes.specs.Weaving.{IsWovenKind, IsWovenTree}
use Rattle.btree_nodes.specs.Splits.{HasPlaceFor, Widens, Settles}
use Rattle.btree_nodes.specs.Descents.{KeepsRoot, SplitsRoot, Grows}
use Rattle.node_arena.proofs.PutInLemmas.{AllBelow, Reaches, AllBelow-place, Reaches-place}
use Rattle.btree_nodes.proofs.PlacesLemmas.{place_in-low}
use Rattle.btree_nodes.proofs.RowLemmas.{Focus, focus}
use Rattle.btree_nodes.proofs.SplitLemmas.{Wide, fits, parted}
use Rattle.btree_nodes.proofs.ChildLemmas.{Open, opened, childless, leaf, child, between, child-woven, kept-above, wide-above}

-- a node that is to be wider, settled
settle : (s : List NodeKind) (k : ℕ) (a b c : ArenaState) (x : Elem) (i : ℕ) (run : List Elem) (ls : Trees) (wider : List Elem) (row : Trees)
    → IsWovenKind s k → length run ≤ (kind_at s k).hi → Wide s k a b x i run ls wider row
    → (result : Option (Elem × ℕ)) → Settles (kind_at s k).hi k b c i wider (roots row) result → Grows s k a c x (node i k run ls done) result
settle s k a b c x i run ls wider row kind few w None h = fits s k a b c x i run ls wider row kind w h.0 h.1
settle s k a b c x i run ls wider row kind few w (Some q) h = parted s k a b c x i run ls wider row kind few w q.0 q.1 h

module _ {s : List NodeKind} {k : ℕ} {a : ArenaState} {i levels : ℕ} (t : Trees) (w : IsWovenTree s k a i levels t) where
  o : Open s k a i levels w.run w.links
  o = opened s k a i levels t w

  -- what was read of the node: the place in its run, and the link there
  pub record Reads (x : Elem) (p : ℕ) (l : Option ℕ) : Type 0 where
    pub place : p ≡ place_in x.at w.run
    pub link : get_or (roots w.links) p None ≡ l

  pub reads : (x : Elem) (p : ℕ) (l : Option ℕ) → IfSome (node_at a i) (λ n. p ≡ place_in x.at n.run) → IfSome (node_at a i) (λ n. l ≡ get_or n.links p None)
      → Reads x p l
  reads x p l place link = record {
    place = subst (λ q. IfSome q (λ n. p ≡ place_in x.at n.run)) o.stands.0 place;
    link = sym (subst (λ q. IfSome q (λ n. l ≡ get_or n.links p None)) o.stands.0 link);
  }

  module _ (x : Elem) (p : ℕ) (l : Option ℕ) (r : Reads x p l) where
    within : p ≤ length w.run
    within = subst (λ n. n ≤ length w.run) (sym r.place) (place_in-low x.at w.run)

    under : AllBelow x.at (take p w.run)
    under = subst (λ n. AllBelow x.at (take n w.run)) (sym r.place) (AllBelow-place x.at w.run)

    reach : Reaches x.at (drop p w.run)
    reach = subst (λ n. Reaches x.at (drop n w.run)) (sym r.place) (Reaches-place x.at w.run)

    -- a childless node
    pub at-leaf : (b : ArenaState) (result : Option (Elem × ℕ)) → l ≡ None
        → IfSome (node_at a i) (λ m. Widens (kind_at s k).hi k a b i p x None m result) → Grows s k a b x t result
    at-leaf b result none settled =
        let bare : w.links ≡ done = childless s k a i levels w.run w.links p o within (r.link ∙ none) in
        let st : Settles (kind_at s k).hi k a b i (insert w.run p x) (roots w.links) result =
        subst (λ q. IfSome q (λ m. Widens (kind_at s k).hi k a b i p x None m result)) o.stands.0 settled in
        subst (λ u. Grows s k a b x u result) (sym w.is)
        (settle s k a a b x i w.run w.links (insert w.run p x) w.links o.kind o.few (leaf s k a i levels w.run w.links p x o within bare under reach) result st)

    pub leaf-there : l ≡ None → IsSomeAnd (node_at a i) (HasPlaceFor (kind_at s k).hi k p None)
    leaf-there none =
        let bare : length (roots w.links) ≡ 0 = ap (λ u. length (roots u)) (childless s k a i levels w.run w.links p o within (r.link ∙ none)) in
        subst (λ q. IsSomeAnd q (HasPlaceFor (kind_at s k).hi k p None)) (sym o.stands.0) (refl, within, o.few, omega arith, tt)

    module _ (c : ℕ) (some : l ≡ Some c) where
      f : Focus k w.links p c
      f = focus s k (kind_at s k).lo (height s w.links) w.links p c o.line (r.link ∙ some)

      -- the child's tree
      pub below : Trees
      below = child s k a i levels w.run w.links p c f

      pub below-woven : IsWovenTree s k a c (levels - 1) below
      unfolding below
      below-woven = child-woven s k a i levels w.run w.links p c f o within

      pub below-high : height s below + 1 ≡ height s t
      unfolding below
      below-high =
          let h : height s t ≡ 1 + height s w.links = ap (height s) w.is in
          let b : height s (child s k a i levels w.run w.links p c f) ≡ height s w.links = (between s k a i levels w.run w.links p c f o within).high in
          omega arith

      pub below-kept : (b : ArenaState) → KeepsRoot s k a b x below → KeepsRoot s k a b x t
      unfolding below
      below-kept b h = subst (λ u. KeepsRoot s k a b x u) (sym w.is) (kept-above s k a i levels w.run w.links p c f b x o within under reach h)

      pub below-parted : (b d : ArenaState) (up : Elem) (right : ℕ) (result : Option (Elem × ℕ)) → SplitsRoot s k a b x below up right
          → IfSome (node_at b i) (λ m. Widens (kind_at s k).hi k b d i p up (Some right) m result) → Grows s k a d x t result
      unfolding below
      below-parted b d up right result h settled =
          let v = wide-above s k a i levels w.run w.links p c f b x up right o within under reach h in
          let same : node_at b i ≡ Some (stored k w.run w.links) = v.0.keeps_here ∙ o.stands.0 in
          let st : Settles (kind_at s k).hi k b d i (insert w.run p up) (with_link (roots w.links) p (Some right)) result =
          subst (λ q. IfSome q (λ m. Widens (kind_at s k).hi k b d i p up (Some right) m result)) same settled in
          subst (λ u. Grows s k a d x u result) (sym w.is)
          (settle s k a b d x i w.run w.links (insert w.run p up) (beside f.before (beside (beside h.lower h.upper) f.later)) o.kind o.few v.0 result
          (subst (λ q. Settles (kind_at s k).hi k b d i (insert w.run p up) q result) v.1 st))

      -- the node still stands, and has a place for the link
      pub below-there : (b : ArenaState) (up : Elem) (right : ℕ) → SplitsRoot s k a b x below up right
          → IsSomeAnd (node_at b i) (HasPlaceFor (kind_at s k).hi k p (Some right))
      unfolding below
      below-there b up right h =
          let v = wide-above s k a i levels w.run w.links p c f b x up right o within under reach h in
          let same : node_at b i ≡ Some (stored k w.run w.links) = v.0.keeps_here ∙ o.stands.0 in
          let many : length (roots w.links) ≡ length w.run + 1 = (between s k a i levels w.run w.links p c f o within).many in
          let low : p ≤ length w.run = within in
          subst (λ q. IsSomeAnd q (HasPlaceFor (kind_at s k).hi k p (Some right))) (sym same) (refl, within, o.few, omega arith, omega arith)
