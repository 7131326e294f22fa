-- What becomes of a whole structure: what becomes of the tree at a link that leads to its root.
use Rattle.std.proofs.Common.{◌≡◌, ◌≢◌, ◌≤◌, ◌<◌, ◌+◌, ◌^◌, ℕ, List, [], ◌∷◌, length, Some, refl, ap, ◌∙◌, sym, subst, arith}
use Rattle.node_arena.specs.declared.elements.Elem.{Elem}
use Rattle.node_arena.specs.declared.elements.Structure.{Structure}
use Rattle.node_arena.specs.declared.kinds.NodeKind.{NodeKind}
use Rattle.node_arena.specs.declared.kinds.Shape.TheVariants.{Flat, Woven}
use Rattle.node_arena.specs.Arenas.{ArenaState}
use Rattle.node_arena.specs.Kinds.{shape_at}
use Rattle.node_arena.specs.Trees.{Trees, done, node, roots, Stands, IsReachedOnce, ChangesOnly}
use Rattle.node_arena.specs.Walks.{walk}
use Rattle.node_arena.specs.Conforming.{height, spine, Conform}
use Rattle.node_arena.specs.Structures.{Tree, empty, rooted, flat, links_of, top_of, walk_of, AvoidsRun, IsStanding, ConformTree, IsConforming}
use Rattle.node_arena.specs.Insertions.{put_in, Lacks, IsPutIn}
use Rattle.node_arena.specs.Passing.{PutsAt}
use Rattle.node_arena.proofs.ChangesLemmas.{ChangesOnlyTree-nodes}
use Rattle.node_arena.proofs.InsertionsLemmas.{Conform-PutsAt}
use Rattle.node_arena.proofs.PutInLemmas.{length-put_in}
use Rattle.node_arena.proofs.StructuresLemmas.{tree_unique}
use Rattle.btree_nodes.specs.Weaving.{IsWovenKind, root_in, with_root}
use Rattle.btree_nodes.specs.Links.{CanPutAt, PutsUnder, WritesFewAt}
use Rattle.btree_nodes.specs.Writes.{WritesFew}
use Rattle.btree_nodes.proofs.ConformLemmas.{Rooted, rooted-of}
use Rattle.btree_nodes.proofs.SpineLemmas.{spine-woven}

module _ (s : List NodeKind) (k : ℕ) (kind : IsWovenKind s k) where
  leads-of : (t : Tree) → ConformTree s k t → roots (links_of t) ≡ root_in (top_of t) ∷ []
  leads-of empty c = refl
  leads-of (rooted i m run ls) c = refl
  leads-of (flat i run) c = let f : Woven ≡ Flat = sym kind.shape ∙ c.0 in cc

  no-run : (t : Tree) → ConformTree s k t → (i : ℕ) → AvoidsRun i t
  no-run empty c i = tt
  no-run (rooted j m run ls) c i = tt
  no-run (flat j run) c i = let f : Woven ≡ Flat = sym kind.shape ∙ c.0 in cc

  walk-same : (t : Tree) → ConformTree s k t → walk s (links_of t) ≡ walk_of s t
  walk-same empty c = refl
  walk-same (rooted i m run ls) c = refl
  walk-same (flat i run) c = let f : Woven ≡ Flat = sym kind.shape ∙ c.0 in cc

  conform-links : (t : Tree) → ConformTree s k t → Conform s k (links_of t)
  conform-links empty c = record { hangs = (refl, refl); level = tt; low = omega arith; rising = tt }
  conform-links (rooted i m run ls) c = c.1
  conform-links (flat i run) c = let f : Woven ≡ Flat = sym kind.shape ∙ c.0 in cc

  module _ (a : ArenaState) (top : Structure) (t : Tree) (st : IsStanding s a top t) (cf : IsConforming s k top t) where
    -- what holds of its one tree holds of each tree of the structure
    pub of_each : (P : Tree → Type 0) → P t → (u : Tree) → IsStanding s a top u → P u
    of_each P h u g = subst P (tree_unique s a top t u st g) h

    -- as many elements are walked as the structure has
    pub counted : length (walk s (links_of t)) ≡ top.len
    counted = ap length (walk-same t cf.tree) ∙ st.counted

    -- the tree at a link that leads to the root
    pub at-link : (x : Elem) → Lacks x.at (walk_of s t) → top.len < 4294967295 → CanPutAt s k a x (root_in top.top) (links_of t)
    at-link x lacks few = record {
      leads = leads-of t cf.tree ∙ ap (λ o. root_in o ∷ []) (sym st.top);
      stands = st.nodes;
      once = st.once;
      conforms = conform-links t cf.tree;
      lacks = subst (Lacks x.at) (sym (walk-same t cf.tree)) lacks;
      few = omega (arith, counted);
    }

    module _ (b : ArenaState) (x : Elem) where
      rooted-in : (i : ℕ) (new : Structure) → new ≡ with_root i top → b.runs ≡ a.runs → CanPutAt s k a x (root_in top.top) (links_of t) → (u : Trees)
          → roots u ≡ Some i ∷ [] → (p : PutsAt s k a b (x ∷ []) (links_of t) u) → Conform s k u → Rooted s k kind i u → IsPutIn s k a b x t new
      rooted-in i new e same can u leads p c r =
          let is : walk s (node i k r.run r.links done) ≡ put_in x (walk_of s t) = ap (walk s) (sym r.is) ∙ p.walk_is ∙ ap (put_in x) (walk-same t cf.tree) in
          let n : length (walk s (node i k r.run r.links done)) ≡ length (walk_of s t) + 1 = ap length is ∙ length-put_in x (walk_of s t) in
          let l : length (walk_of s t) ≡ top.len = st.counted in
          let woven : shape_at s k ≢ Flat = λ e. let f : Woven ≡ Flat = sym kind.shape ∙ e in cc in
          let none : spine s (node i k r.run r.links done) ≡ 0 = ap (spine s) (sym r.is) ∙ spine-woven s k u kind.shape p.hangs in
          subst (IsPutIn s k a b x t) (sym e) (record {
            tree = rooted i k r.run r.links;
            stands = record {
              top = refl;
              nodes = subst (λ v. Stands b v) r.is p.stands;
              once = subst IsReachedOnce r.is p.once;
              run = tt;
              counted = omega arith;
            };
            conforms = record { tree = (woven, subst (Conform s k) r.is c); spine_kept = omega arith; spine_low = cf.spine_low };
            walk_is = is;
            only = ChangesOnlyTree-nodes a b t (rooted i k r.run r.links) (subst (ChangesOnly a b (links_of t)) r.is p.only) same (no-run t cf.tree) (λ j. tt);
          })

      -- the structure has x put in, where the tree at the link has
      pub put-top : (i : ℕ) (new : Structure) → new ≡ with_root i top → b.runs ≡ a.runs → CanPutAt s k a x (root_in top.top) (links_of t)
          → PutsUnder s k a b x (links_of t) i → IsPutIn s k a b x t new
      put-top i new e same can p =
          let none : spine s p.tree ≡ 0 = spine-woven s k p.tree kind.shape p.puts.hangs in
          let c : Conform s k p.tree = Conform-PutsAt s k a b (x ∷ []) (links_of t) p.tree p.puts can.conforms (omega arith) tt (can.lacks, tt) in
          rooted-in i new e same can p.tree p.leads p.puts c (rooted-of s k kind i p.tree p.leads c)

    -- as few nodes are written as at the link
    pub few-top : (b : ArenaState) (old now : ℕ) → WritesFewAt s a b (links_of t) old now → WritesFew s a b t top.len old now
    few-top b old now w = record { low = subst (λ n. 2 ^ height s (links_of t) ≤ n + 1) counted w.low; steps = w.steps; differ = w.differ }
