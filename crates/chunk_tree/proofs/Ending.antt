-- What is done at the node at which the way ends.
use Rattle.std.proofs.Common.{◌≡◌, ◌≢◌, ◌≤◌, ◌<◌, ◌+◌, ◌/◌, ◌⊎◌, inl, inr, ℕ, max, true, List, [], ◌∷◌, ◌++◌, length, get_or, Some, None, is_some, refl, ap, ◌∙◌, sym, subst, arith, append_assoc, length-append}
use Rattle.node_arena.specs.declared.elements.Elem.{Elem}
use Rattle.node_arena.specs.declared.elements.Side.TheVariants as sides
use Rattle.node_arena.specs.declared.kinds.NodeKind.{NodeKind}
use Rattle.node_arena.specs.declared.kinds.Shape.TheVariants.{Woven}
use Rattle.node_arena.specs.Arenas.{ArenaState, node_at, ChangesNode}
use Rattle.node_arena.specs.Conforming.{Hang, whole, IsLevel, spine}
use Rattle.node_arena.specs.Insertions.{put_in}
use Rattle.node_arena.specs.Kinds.{kind_at, shape_at}
use Rattle.node_arena.specs.Passing.{IsDone, Deepens, PushesDown, wedge_depth}
use Rattle.node_arena.specs.Rules.{AreSound, post_of}
use Rattle.node_arena.specs.Trees.{Trees, done, node, roots, stored, Stands, Avoids, IsReachedOnce}
use Rattle.node_arena.specs.Walks.{walk}
use Rattle.node_arena.proofs.ChangesLemmas.{node_differs, ChangesOnly-same}
use Rattle.node_arena.proofs.DepthsLemmas.{wedge_depth-deeper, wedge_depth-pushes, GoesDeep-told}
use Rattle.node_arena.proofs.FramesLemmas.{Avoids-root}
use Rattle.node_arena.proofs.PutInLemmas.{length-put_in}
use Rattle.node_arena.proofs.RowsLemmas.{beside, roots-beside, beside-Avoids}
use Rattle.chunk_tree.specs.Ways.{Takes, first_of, last_of, kind_on, has_two_links}
use Rattle.chunk_tree.specs.Writes.{Fits, Wedges, links_before, Hangs}
use Rattle.chunk_tree.proofs.Behind.{behind, trees_before, wedge-turns, leaf_of, leaf-turns, leaf-walk, leaf-spine}
use Rattle.chunk_tree.proofs.Opening.{Opened, nothing-at, pre-hangs, post-hangs, both-stand, both-avoid, both-once, both-level, some-node, pre-turned, post-turned, pre-deepens, post-deepens, head-root, tail-root}
use Rattle.chunk_tree.proofs.Options.{and_known}
use Rattle.chunk_tree.proofs.Order.{goes-run, goes-pre, goes-post}
use Rattle.chunk_tree.proofs.Pairs.{head_of, tail_of, parted, parts-avoid, roots-head, roots-tail, spine-join, spine-ends}
use Rattle.chunk_tree.proofs.Turning.{Turns, with_number}

-- nothing has become of it
pub turns-same : (s : List NodeKind) (p : ℕ) (a : ArenaState) (i : ℕ) (t : Trees) → Stands a t → IsReachedOnce t → Hang s (whole s p ∷ []) t → IsLevel s t
    → Avoids i t
    → Turns s p a a i t t
turns-same s p a i t st once hang level av = record {
  stands = st;
  once = once;
  hangs = hang;
  level = level;
  spine_low = omega arith;
  away = av;
  only = ChangesOnly-same a (with_number i t);
}

-- a leaf where nothing was goes one deep
leaf-deepens : (n m : ℕ) → n ≡ 0 → m ≡ 1 → Deepens (Some 1) n m
leaf-deepens n m e f = omega arith

module _ (s : List NodeKind) (a b : ArenaState) (x : Elem) (i k p q : ℕ) (run : List Elem) (ls : Trees) (sound : AreSound s)
    (o : Opened s a i k p q run ls) where
  abbrev u : Trees
  u = head_of ls

  abbrev v : Trees
  v = tail_of ls

  -- x goes into the run
  pub run-walk : (hi : ℕ) → Takes hi x.at (stored k run ls) None → put_in x (walk s u ++ (run ++ walk s v)) ≡ walk s u ++ (put_in x run ++ walk s v)
  run-walk hi takes = goes-run x (walk s u) run (walk s v) o.low o.rising (first takes.0) (last takes.1)
    where
      first : (first_of run ≤ x.at) ⊎ ((length run < hi) × (get_or (roots ls) 0 None ≡ None)) → (first_of run ≤ x.at) ⊎ (walk s u ≡ [])
      first (inl h) = inl h
      first (inr h) = inr (ap (walk s) (nothing-at s (whole s p) u (pre-hangs s a i k p q run ls o) (roots-head ls ∙ h.1)))

      last : (x.at ≤ last_of run) ⊎ ((length run < hi) × (get_or (roots ls) 1 None ≡ None)) → (x.at ≤ last_of run) ⊎ (walk s v ≡ [])
      last (inl h) = inl h
      last (inr h) = inr (ap (walk s) (nothing-at s (whole s q) v (post-hangs s a i k p q run ls o) (roots-tail ls ∙ h.1)))

  -- the run has room
  pub fitted : Takes (kind_at s k).hi x.at (stored k run ls) None → Fits s x a b i (stored k run ls)
      → IsDone s a b x (node i k run ls done) (Some 0)
  fitted takes f =
      let len : length (put_in x run) ≡ length run + 1 = length-put_in x run in
      let spine_is : spine s (node i k (put_in x run) (beside u v) done) ≡ 1 + max (spine s u) (spine s v) =
      spine-ends s i k p q (put_in x run) (beside u v) o.shape ∙ ap (λ n. 1 + n) (spine-join s u v) in
      let ch : ChangesNode a b i (Some (stored k (put_in x run) (beside u v))) = subst (λ w. ChangesNode a b i (Some (stored k (put_in x run) w)))
      (parted ls) f.puts in
      record {
        tree = node i k (put_in x run) (beside u v) done;
        same_root = refl;
        puts = post-turned s a i k p q run ls o a b v (put_in x run) (x ∷ []) (omega arith) (omega (arith, f.room))
            (turns-same s q a i v (both-stand s a i k p q run ls o).1 (both-once s a i k p q run ls o).1 (post-hangs s a i k p q run ls o)
            (both-level s a i k p q run ls o).1
            (both-avoid s a i k p q run ls o).1)
            ch (sym (run-walk (kind_at s k).hi takes));
        goes = GoesDeep-told s a b (node i k run ls done) (node i k (put_in x run) (beside u v) done) 0
            (let e = spine_is in let f = o.spine_is in omega arith);
      }

  post-own : shape_at s q ≢ Woven → (shape_at s q ≡ Woven) ⊎ ((post_of (shape_at s q) ≡ Some q) × (((kind_at s k).hi + 1) / 2 ≤ (kind_at s q).hi))
      → (post_of (shape_at s q) ≡ Some q) × (((kind_at s k).hi + 1) / 2 ≤ (kind_at s q).hi)
  post-own ne (inl e) = absurd (ne e)
  post-own ne (inr h) = h

  -- a new node behind the run pushes down what hung there
  pushed : (j : ℕ) → Wedges s x a b i (stored k run ls) j → (t : Trees) → (Avoids j t → ⊥)
      → wedge_depth (shape_at s (kind_on (shape_at s k) sides.Post)) (is_some (get_or (roots ls) 1 None)) 1 ≡ None
      → PushesDown a b (node i k run ls done) t
  pushed j w t is_new =
      let new : node_at b j ≡ Some (record { kind = w.kind; run = w.upper; links = links_before (shape_at s w.kind) (get_or (roots ls) 1 None) }) =
      w.puts.node.others j (node_differs a i j (some-node s a i k p q run ls o) w.free) ∙ w.makes.node.changed in
      wedge_depth-pushes a b (node i k run ls done) t (shape_at s (kind_on (shape_at s k) sides.Post)) (get_or (roots ls) 1 None) j 1 w.free is_new
      (λ m is away. Avoids-root v m [] (tail-root s a i k p q run ls o ∙ ap (λ l. l ∷ []) is) (parts-avoid m ls away.1).1)
      (λ y z m e is. and_known (node_at b j) (λ n. n.links ≡ None ∷ Some m ∷ []) _ new
      (ap (λ l. links_before (shape_at s w.kind) l) is ∙ ap (λ h. links_before (shape_at s h) (Some m)) w.kind_is ∙ ap (λ sh. links_before sh (Some m)) e))

  -- the run is too long, and its upper part is a new node's
  pub wedged : (j : ℕ) → shape_at s (kind_on (shape_at s k) sides.Post) ≢ Woven → Takes (kind_at s k).hi x.at (stored k run ls) None
      → Wedges s x a b i (stored k run ls) j
      → IsDone s a b x (node i k run ls done)
      (wedge_depth (shape_at s (kind_on (shape_at s k) sides.Post)) (is_some (get_or (roots ls) 1 None)) 1)
  wedged j ne takes w =
      let on : kind_on (shape_at s k) sides.Post ≡ q = ap (λ sh. kind_on sh sides.Post) o.shape in
      let kind : w.kind ≡ q = w.kind_is ∙ on in
      let own = post-own (λ e. ne (ap (shape_at s) on ∙ e)) o.follows.1 in
      let bh = behind s q w.upper v sound own.0 in
      let vs = trees_before (shape_at s q) v in
      let len : length (put_in x run) ≡ length run + 1 = length-put_in x run in
      let sum : length (put_in x run) ≡ length w.lower + length w.upper = ap length w.parts.both ∙ length-append w.lower w.upper in
      let slot : links_before (shape_at s w.kind) (get_or (roots ls) 1 None) ≡ roots vs =
      ap (λ m. links_before (shape_at s m) (get_or (roots ls) 1 None)) kind
      ∙ sym (bh.roots_are (get_or (roots ls) 1 None) (tail-root s a i k p q run ls o)) in
      let makes : ChangesNode a w.between j (Some (stored q w.upper vs)) =
      subst (λ m. ChangesNode a w.between j (Some (record { kind = m; run = w.upper; links = roots vs }))) kind
      (subst (λ l. ChangesNode a w.between j (Some (record { kind = w.kind; run = w.upper; links = l }))) slot w.makes) in
      let new = node j q w.upper vs done in
      let links : get_or (roots ls) 0 None ∷ Some j ∷ [] ≡ roots (beside u new) =
      ap (λ l. l ++ Some j ∷ []) (sym (head-root s a i k p q run ls o)) ∙ sym (roots-beside u new) in
      let low1 : 1 ≤ length w.lower = omega (arith, w.parts.keep) in
      let high1 : length w.lower ≤ (kind_at s k).hi = omega (arith, w.parts.keep, o.low, o.high) in
      let low2 : 1 ≤ length w.upper = omega (arith, w.parts.keep, w.parts.full, o.low, o.high) in
      let high2 : length w.upper ≤ (kind_at s q).hi = omega (arith, w.parts.keep, own.1, o.high) in
      record {
        tree = node i k w.lower (beside u new) done;
        same_root = refl;
        puts = post-turned s a i k p q run ls o w.between b new w.lower (x ∷ []) low1 high1
            (wedge-turns s a w.between i q j w.upper v vs bh (post-hangs s a i k p q run ls o) (both-level s a i k p q run ls o).1
            (both-stand s a i k p q run ls o).1
            (both-once s a i k p q run ls o).1 (both-avoid s a i k p q run ls o).1 (some-node s a i k p q run ls o) low2 high2 w.free makes)
            (subst (λ l. ChangesNode w.between b i (Some (record { kind = k; run = w.lower; links = l }))) links w.puts)
            (ap (λ z. walk s u ++ (w.lower ++ z)) (bh.walk_is j) ∙ ap (λ z. walk s u ++ z) (sym (append_assoc w.lower w.upper (walk s v)))
            ∙ ap (λ z. walk s u ++ (z ++ walk s v)) (sym w.parts.both) ∙ sym (run-walk (kind_at s k).hi takes));
        goes = record {
          pushes = pushed j w (node i k w.lower (beside u new) done) (λ away. (beside-Avoids j u new away.1).1.0 refl);
          deepens = subst (λ n. Deepens (wedge_depth (shape_at s n) (is_some (get_or (roots ls) 1 None)) 1) (spine s (node i k run ls done))
              (spine s (node i k w.lower (beside u new) done))) (sym on)
              (wedge_depth-deeper (shape_at s q) (is_some (get_or (roots ls) 1 None)) 1 0 (spine s (node i k run ls done))
              (spine s (node i k w.lower (beside u new) done)) (omega (arith, o.spine_is))
              (post-deepens s a i k p q run ls o (wedge_depth (shape_at s q) (is_some (get_or (roots ls) 1 None)) 0) new w.lower
              (bh.deepens j (get_or (roots ls) 1 None) (tail-root s a i k p q run ls o))));
        };
      }

  -- x alone is a new node's before the run
  pub hung-pre : (j hi : ℕ) → get_or (roots ls) 0 None ≡ None → Takes hi x.at (stored k run ls) (Some sides.Pre)
      → has_two_links (shape_at s (kind_on (shape_at s k) sides.Pre)) ≡ true
      → Hangs s x a b i (stored k run ls) sides.Pre j → IsDone s a b x (node i k run ls done) (Some 2)
  hung-pre j hi none takes two h =
      let on : kind_on (shape_at s k) sides.Pre ≡ p = ap (λ sh. kind_on sh sides.Pre) o.shape in
      let kind : h.kind ≡ p = h.kind_is ∙ on in
      let ends : has_two_links (shape_at s p) ≡ true = subst (λ m. has_two_links (shape_at s m) ≡ true) on two in
      let leaf = leaf_of j p x in
      let empty : walk s u ≡ [] = ap (walk s) (nothing-at s (whole s p) u (pre-hangs s a i k p q run ls o) (roots-head ls ∙ none)) in
      let links : Some j ∷ get_or (roots ls) 1 None ∷ [] ≡ roots (beside leaf v) = ap (λ l. Some j ∷ l) (sym (tail-root s a i k p q run ls o)) in
      record {
        tree = node i k run (beside leaf v) done;
        same_root = refl;
        puts = pre-turned s a i k p q run ls o h.between b leaf run (x ∷ []) o.low o.high
            (leaf-turns s x p j sound ends a h.between i u (nothing-at s (whole s p) u (pre-hangs s a i k p q run ls o) (roots-head ls ∙ none))
            (some-node s a i k p q run ls o) h.free
            (subst (λ m. ChangesNode a h.between j (Some (record { kind = m; run = x ∷ []; links = None ∷ None ∷ [] }))) kind h.makes))
            refl
            (subst (λ l. ChangesNode h.between b i (Some (record { kind = k; run = run; links = l }))) links h.puts)
            (ap (λ z. z ++ (run ++ walk s v)) (leaf-walk s x p j sound ends ∙ sym (ap (put_in x) empty))
            ∙ sym (goes-pre x (walk s u) run (walk s v) o.low takes.0));
        goes = GoesDeep-told s a b (node i k run ls done) (node i k run (beside leaf v) done) 2 (pre-deepens s a i k p q run ls o (Some 1) leaf run
            (leaf-deepens (spine s u) (spine s leaf) (ap (spine s) (nothing-at s (whole s p) u (pre-hangs s a i k p q run ls o) (roots-head ls ∙ none)))
            (leaf-spine s x p j sound ends)));
      }

  -- x alone is a new node's behind the run
  pub hung-post : (j hi : ℕ) → get_or (roots ls) 1 None ≡ None → Takes hi x.at (stored k run ls) (Some sides.Post)
      → has_two_links (shape_at s (kind_on (shape_at s k) sides.Post)) ≡ true
      → Hangs s x a b i (stored k run ls) sides.Post j → IsDone s a b x (node i k run ls done) (Some 2)
  hung-post j hi none takes two h =
      let on : kind_on (shape_at s k) sides.Post ≡ q = ap (λ sh. kind_on sh sides.Post) o.shape in
      let kind : h.kind ≡ q = h.kind_is ∙ on in
      let ends : has_two_links (shape_at s q) ≡ true = subst (λ m. has_two_links (shape_at s m) ≡ true) on two in
      let leaf = leaf_of j q x in
      let empty : walk s v ≡ [] = ap (walk s) (nothing-at s (whole s q) v (post-hangs s a i k p q run ls o) (roots-tail ls ∙ none)) in
      let links : get_or (roots ls) 0 None ∷ Some j ∷ [] ≡ roots (beside u leaf) =
      ap (λ l. l ++ Some j ∷ []) (sym (head-root s a i k p q run ls o)) ∙ sym (roots-beside u leaf) in
      record {
        tree = node i k run (beside u leaf) done;
        same_root = refl;
        puts = post-turned s a i k p q run ls o h.between b leaf run (x ∷ []) o.low o.high
            (leaf-turns s x q j sound ends a h.between i v (nothing-at s (whole s q) v (post-hangs s a i k p q run ls o) (roots-tail ls ∙ none))
            (some-node s a i k p q run ls o) h.free
            (subst (λ m. ChangesNode a h.between j (Some (record { kind = m; run = x ∷ []; links = None ∷ None ∷ [] }))) kind h.makes))
            (subst (λ l. ChangesNode h.between b i (Some (record { kind = k; run = run; links = l }))) links h.puts)
            (ap (λ z. walk s u ++ (run ++ z)) (leaf-walk s x q j sound ends ∙ sym (ap (put_in x) empty))
            ∙ sym (goes-post x (walk s u) run (walk s v) o.low o.rising takes.0));
        goes = GoesDeep-told s a b (node i k run ls done) (node i k run (beside u leaf) done) 2 (post-deepens s a i k p q run ls o (Some 1) leaf run
            (leaf-deepens (spine s v) (spine s leaf) (ap (spine s) (nothing-at s (whole s q) v (post-hangs s a i k p q run ls o) (roots-tail ls ∙ none)))
            (leaf-spine s x q j sound ends)));
      }
