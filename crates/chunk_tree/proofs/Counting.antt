-- How many nodes a structure has: at most as many as elements.
use Rattle.std.proofs.Common.{◌≡◌, ◌≢◌, ◌≤◌, ◌+◌, ℕ, List, [], ◌∷◌, ◌++◌, map, length, ap, sym, ◌∙◌, arith, length-append}
use Rattle.node_arena.specs.declared.elements.Elem.{Elem}
use Rattle.node_arena.specs.declared.elements.Structure.{Structure}
use Rattle.node_arena.specs.declared.kinds.NodeKind.{NodeKind}
use Rattle.node_arena.specs.declared.kinds.Shape.{Shape}
use Rattle.node_arena.specs.declared.kinds.Shape.TheVariants.{Flat, Post, Ends, Woven}
use Rattle.node_arena.specs.Arenas.{ArenaState}
use Rattle.node_arena.specs.Conforming.{Place, Hang, whole, places, children, woven_places}
use Rattle.node_arena.specs.Kinds.{shape_at}
use Rattle.node_arena.specs.Rules.{AreSound}
use Rattle.node_arena.specs.Structures.{Tree, empty, rooted, flat, links_of, IsStructure}
use Rattle.node_arena.specs.Trees.{Trees, done, absent, node}
use Rattle.node_arena.specs.Walks.{item, link, weave, between, parts, joined, walk, walks}
use Rattle.node_arena.proofs.PlacesLemmas.{length-children, count-walks, AllSome, whole-some, some-places}
use Rattle.node_arena.proofs.WalksLemmas.{total, walk-total, length-items, length-links, length-bare, length-weave}
use Rattle.chunk_tree.specs.Balancing.{node_count}
use Rattle.chunk_tree.specs.Numbering.{HangsAt}
use Rattle.chunk_tree.specs.Relinking.{root_at}
use Rattle.chunk_tree.proofs.Anew.{roots-links}

length-run : (run : List Elem) (ws : List (List Elem)) → length (joined (map item run ++ map link ws)) ≡ length run + total ws
length-run run ws = length-items run (map link ws) ∙ ap (λ n. length run + n) (length-links ws)

length-between : (run : List Elem) (ws : List (List Elem)) → length (joined (between run ws)) ≡ length run + total ws
length-between run [] = by run
  where
    by : (xs : List Elem) → length (joined (map item xs)) ≡ length xs + 0
    by [] = omega arith
    by (x ∷ xs) = let ih : length (joined (map item xs)) ≡ length xs + 0 = by xs in omega arith
length-between run (w ∷ ws) =
    let e : length (joined (between run (w ∷ ws))) ≡ length w + length (joined (map item run ++ map link ws)) =
    length-append w (joined (map item run ++ map link ws)) in
    let f : length (joined (map item run ++ map link ws)) ≡ length run + total ws = length-run run ws in
    omega arith

module _ (s : List NodeKind) where
  length-woven : (p : Place) (run : List Elem) (ls : Trees) → Hang s (woven_places p run ls) ls
      → length (joined (weave run (walks s ls))) ≡ length run + total (walks s ls)
  length-woven p run done h = let e : length (joined (weave run [])) ≡ length run = length-bare run in omega arith
  length-woven p run (absent t) h =
      let n : length (children p run) ≡ length run + 1 = length-children p run in
      let c : length (walks s (absent t)) ≡ length (children p run) = count-walks s (children p run) (absent t) h in
      length-weave run (walks s (absent t)) (omega arith)
  length-woven p run (node i k r ls t) h =
      let n : length (children p run) ≡ length run + 1 = length-children p run in
      let c : length (walks s (node i k r ls t)) ≡ length (children p run) = count-walks s (children p run) (node i k r ls t) h in
      length-weave run (walks s (node i k r ls t)) (omega arith)

  -- a node has its run and what hangs at its links
  length-parts : (shape : Shape) (k : ℕ) (run : List Elem) (ls : Trees) → Hang s (places s shape k run ls) ls
      → length (joined (parts shape run (walks s ls))) ≡ length run + total (walks s ls)
  length-parts Flat k run ls h = length-run run (walks s ls)
  length-parts (Post p) k run ls h = length-run run (walks s ls)
  length-parts (Ends p q) k run ls h = length-between run (walks s ls)
  length-parts Woven k run ls h = length-woven _ run ls h

  module _ (sound : AreSound s) where
    count-hang : (ps : List Place) (t : Trees) → AllSome ps → Hang s ps t → node_count t ≤ length (walk s t)
    count-hang ps done some h = omega arith
    count-hang [] (absent t) some h = absurd h
    count-hang (p ∷ ps) (absent t) some h = count-hang ps t some.1 h.1
    count-hang [] (node i k run ls t) some h = absurd h
    count-hang (p ∷ ps) (node i k run ls t) some h =
        let below : node_count ls ≤ length (walk s ls) =
        count-hang (places s (shape_at s k) k run ls) ls (some-places s sound (shape_at s k) k run ls) h.3 in
        let beside : node_count t ≤ length (walk s t) = count-hang ps t some.1 h.4 in
        let all : length (walk s ls) ≡ total (walks s ls) = walk-total s ls in
        let own = joined (parts (shape_at s k) run (walks s ls)) in
        let here : length own ≡ length run + total (walks s ls) = length-parts (shape_at s k) k run ls h.3 in
        let e : length (own ++ walk s t) ≡ length own + length (walk s t) = length-append own (walk s t) in
        omega (arith, some.0, h.1)

    -- a structure has at most as many nodes as elements
    pub count-low : (k : ℕ) (a : ArenaState) (st : Structure) (t : Tree) → IsStructure s k a st t → node_count (links_of t) ≤ st.len
    count-low k a st empty h = omega arith
    count-low k a st (flat i run) h = omega arith
    count-low k a st (rooted i m run ls) h =
        let counted : length (walk s (node i m run ls done)) ≡ st.len = h.stands.counted in
        let c : node_count (node i m run ls done) ≤ length (walk s (node i m run ls done)) =
        count-hang (whole s k ∷ []) (node i m run ls done) (whole-some s sound k, tt) h.conforms.tree.1.hangs in
        omega arith

    -- the tree of a structure of nodes hangs at its root
    pub hangs-at : (k : ℕ) (a : ArenaState) (st : Structure) (t : Tree) → shape_at s k ≢ Flat → IsStructure s k a st t
        → HangsAt a (root_at st.top) st.len (links_of t)
    hangs-at k a st t linked h = record {
      root = roots-links s k t h.conforms.tree linked ∙ ap (λ v. root_at v ∷ []) (sym h.stands.top);
      stands = h.stands.nodes;
      once = h.stands.once;
      few = count-low k a st t h;
    }
