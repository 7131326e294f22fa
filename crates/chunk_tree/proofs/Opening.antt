-- What a tree of nodes with two links says of its root, and of what hangs at it.
use Rattle.std.proofs.Common.{◌≡◌, ◌≢◌, ◌≤◌, ◌+◌, ℕ, max, List, [], ◌∷◌, ◌++◌, length, get_or, Option, Some, None, IsSome, refl, ap, ◌∙◌, sym, subst, arith, length-append}
use Rattle.node_arena.specs.declared.elements.Elem.{Elem}
use Rattle.node_arena.specs.declared.kinds.NodeKind.{NodeKind}
use Rattle.node_arena.specs.declared.kinds.Shape.TheVariants.{Flat, Ends}
use Rattle.node_arena.specs.Arenas.{ArenaState, node_at, ChangesNode}
use Rattle.node_arena.specs.Conforming.{Hang, whole, IsLevel, spine, Place, IsRising, places, least_of, Conform}
use Rattle.node_arena.specs.Insertions.{PutsIn, all_put_in, Lacks}
use Rattle.node_arena.specs.Kinds.{kind_at, shape_at}
use Rattle.node_arena.specs.Passing.{Deepens, GoesDeep, deeper}
use Rattle.node_arena.specs.Rules.{AreSound, HasSoundLinks, MayFollow}
use Rattle.node_arena.specs.Trees.{Trees, done, absent, node, roots, stored, Stands, Avoids, IsApart, IsReachedOnce}
use Rattle.node_arena.specs.Walks.{walk}
use Rattle.node_arena.proofs.DepthsLemmas.{Deepens-ends, deeper-none, GoesDeep-within}
use Rattle.node_arena.proofs.PlacesLemmas.{hang-none}
use Rattle.node_arena.proofs.PutInLemmas.{IsRising-suffix, IsRising-prefix, append-Lacks}
use Rattle.node_arena.proofs.RowsLemmas.{beside, roots-beside, beside-Stands, beside-Avoids, beside-IsReachedOnce}
use Rattle.chunk_tree.proofs.Pairs.{head_of, tail_of, parted, parts-avoid, beside-done, roots-head, roots-tail, One, walk-two, hang-parts, hang-join, hang-one, hang-node, level-parts, spine-join, spine-ends}
use Rattle.chunk_tree.proofs.Turning.{Turns, turned}

-- the root, and the trees before and behind its run
pub record Opened (s : List NodeKind) (a : ArenaState) (i k p q : ℕ) (run : List Elem) (ls : Trees) : Type 0 where
  pub shape : shape_at s k ≡ Ends p q
  pub lo : (kind_at s k).lo ≡ 1
  pub pre_shape : shape_at s p ≢ Flat
  pub follows : MayFollow s (kind_at s k) q
  pub stands : Stands a (node i k run ls done)
  pub once : IsReachedOnce (node i k run ls done)
  pub low : 1 ≤ length run
  pub high : length run ≤ (kind_at s k).hi
  pub links : Hang s (whole s p ∷ whole s q ∷ []) ls
  pub one : One (head_of ls)
  pub walk_is : walk s (node i k run ls done) ≡ walk s (head_of ls) ++ (run ++ walk s (tail_of ls))
  pub rising : IsRising (walk s (head_of ls) ++ (run ++ walk s (tail_of ls)))
  pub level : IsLevel s (node i k run ls done)
  pub spine_is : spine s (node i k run ls done) ≡ 1 + max (spine s (head_of ls)) (spine s (tail_of ls))

-- a tree that conforms, as its root and what hangs at it
pub opened : (s : List NodeKind) (a : ArenaState) (i k p q : ℕ) (run : List Elem) (ls : Trees) → AreSound s → shape_at s k ≡ Ends p q
    → Stands a (node i k run ls done) → IsReachedOnce (node i k run ls done) → Conform s k (node i k run ls done) → Opened s a i k p q run ls
opened s a i k p q run ls sound e st once c =
    let rule : HasSoundLinks s (kind_at s k) (Ends p q) = subst (HasSoundLinks s (kind_at s k)) e (sound.links k) in
    let l : (whole s k).least ≡ 1 = subst (λ sh. least_of (kind_at s k) sh ≡ 1) (sym e) rule.0 in
    let links : Hang s (whole s p ∷ whole s q ∷ []) ls = subst (λ sh. Hang s (places s sh k run ls) ls) e c.hangs.3 in
    let one : One (head_of ls) = hang-one s (whole s p) (head_of ls) (hang-parts s (whole s p) (whole s q ∷ []) ls links).0 in
    let s1 : spine s (node i k run ls done) ≡ 1 + spine s ls = spine-ends s i k p q run ls e in
    let s2 : spine s ls ≡ max (spine s (head_of ls)) (spine s (tail_of ls)) = ap (spine s) (parted ls) ∙ spine-join s (head_of ls) (tail_of ls) in
    let w : walk s (node i k run ls done) ≡ walk s (head_of ls) ++ (run ++ walk s (tail_of ls)) =
    ap (λ w. walk s (node i k run w done)) (parted ls) ∙ walk-two s i k p q run (head_of ls) (tail_of ls) e one in
    record {
      shape = e;
      lo = rule.0;
      pre_shape = rule.2;
      follows = rule.3;
      stands = st;
      once = once;
      low = omega (arith, c.hangs.1);
      high = c.hangs.2;
      links = links;
      one = one;
      walk_is = w;
      rising = subst IsRising w c.rising;
      level = c.level;
      spine_is = s1 ∙ ap (λ n. 1 + n) s2;
    }

-- where no link is, nothing hangs
pub nothing-at : (s : List NodeKind) (p : Place) (u : Trees) → Hang s (p ∷ []) u → get_or (roots u) 0 None ≡ None → u ≡ absent done
nothing-at s p done h e = absurd (no-nil h)
  where
    no-nil : p ∷ [] ≡ [] → ⊥
    no-nil h = cc
nothing-at s p (absent u) h e = ap absent (hang-none s u h.1)
nothing-at s p (node j m r ls u) h e = cc

-- one root
pub one-root : (u : Trees) → One u → roots u ≡ get_or (roots u) 0 None ∷ []
one-root done o = absurd (omega arith)
one-root (absent u) o = ap (λ w. None ∷ w) (no-roots u (omega arith))
  where
    no-roots : (w : Trees) → length (roots w) ≡ 0 → roots w ≡ []
    no-roots done h = refl
    no-roots (absent w) h = absurd (omega arith)
    no-roots (node j m r l w) h = absurd (omega arith)
one-root (node i k run ls u) o = ap (λ w. Some i ∷ w) (no-roots u (omega arith))
  where
    no-roots : (w : Trees) → length (roots w) ≡ 0 → roots w ≡ []
    no-roots done h = refl
    no-roots (absent w) h = absurd (omega arith)
    no-roots (node j m r l w) h = absurd (omega arith)

-- ---- the parts of the root

module _ (s : List NodeKind) (a : ArenaState) (i k p q : ℕ) (run : List Elem) (ls : Trees) (o : Opened s a i k p q run ls) where
  -- what hangs before the run, and behind it
  pub pre-hangs : Hang s (whole s p ∷ []) (head_of ls)
  pre-hangs = (hang-parts s (whole s p) (whole s q ∷ []) ls o.links).0

  pub post-hangs : Hang s (whole s q ∷ []) (tail_of ls)
  post-hangs = (hang-parts s (whole s p) (whole s q ∷ []) ls o.links).1

  pub both-stand : Stands a (head_of ls) × Stands a (tail_of ls)
  both-stand = beside-Stands a (head_of ls) (tail_of ls) (subst (Stands a) (parted ls) o.stands.1)

  pub both-avoid : Avoids i (head_of ls) × Avoids i (tail_of ls)
  both-avoid = parts-avoid i ls o.once.0

  pub both-once : IsReachedOnce (head_of ls) × IsReachedOnce (tail_of ls) × IsApart (head_of ls) (tail_of ls)
  both-once = beside-IsReachedOnce (head_of ls) (tail_of ls) (subst IsReachedOnce (parted ls) o.once.3)

  pub both-level : IsLevel s (head_of ls) × IsLevel s (tail_of ls)
  both-level = level-parts s (head_of ls) (tail_of ls) (subst (IsLevel s) (parted ls) o.level.1)

  pub pre-rises : IsRising (walk s (head_of ls))
  pre-rises = IsRising-prefix (walk s (head_of ls)) (run ++ walk s (tail_of ls)) o.rising

  pub post-rises : IsRising (walk s (tail_of ls))
  post-rises = IsRising-suffix run (walk s (tail_of ls)) (IsRising-suffix (walk s (head_of ls)) (run ++ walk s (tail_of ls)) o.rising)

  pub run-rises : IsRising run
  run-rises = IsRising-prefix run (walk s (tail_of ls)) (IsRising-suffix (walk s (head_of ls)) (run ++ walk s (tail_of ls)) o.rising)

  pub some-node : IsSome (node_at a i)
  some-node = subst IsSome (sym o.stands.0) refl

  -- how many elements there are
  pub length-walk : length (walk s (node i k run ls done)) ≡ length (walk s (head_of ls)) + (length run + length (walk s (tail_of ls)))
  length-walk =
      ap length o.walk_is ∙ length-append (walk s (head_of ls)) (run ++ walk s (tail_of ls))
      ∙ ap (λ n. length (walk s (head_of ls)) + n) (length-append run (walk s (tail_of ls)))

  -- a coordinate that the whole lacks
  pub lacks-parts : (n : ℕ) → Lacks n (walk s (node i k run ls done)) → Lacks n (walk s (head_of ls)) × Lacks n run × Lacks n (walk s (tail_of ls))
  lacks-parts n h =
      let l = append-Lacks n (walk s (head_of ls)) (run ++ walk s (tail_of ls)) (subst (Lacks n) o.walk_is h) in
      let r = append-Lacks n run (walk s (tail_of ls)) l.1 in
      (l.0, r.0, r.1)

  -- the two links, one by one
  pub head-root : roots (head_of ls) ≡ get_or (roots ls) 0 None ∷ []
  head-root = one-root (head_of ls) o.one ∙ ap (λ r. r ∷ []) (roots-head ls)

  pub tail-one : One (tail_of ls)
  tail-one = hang-one s (whole s q) (tail_of ls) post-hangs

  pub tail-root : roots (tail_of ls) ≡ get_or (roots ls) 1 None ∷ []
  tail-root = one-root (tail_of ls) tail-one ∙ ap (λ r. r ∷ []) (roots-tail ls)

  pub both-roots : roots ls ≡ get_or (roots ls) 0 None ∷ get_or (roots ls) 1 None ∷ []
  both-roots =
      ap roots (parted ls) ∙ roots-beside (head_of ls) (tail_of ls) ∙ ap (λ w. w ++ roots (tail_of ls)) head-root
      ∙ ap (λ w. get_or (roots ls) 0 None ∷ w) tail-root

  -- the spine, where another tree is before the run, or behind it
  pub pre-deepens : (deep : Option ℕ) (v : Trees) (new_run : List Elem) → Deepens deep (spine s (head_of ls)) (spine s v)
      → Deepens (deeper 1 deep) (spine s (node i k run ls done)) (spine s (node i k new_run (beside v (tail_of ls)) done))
  pre-deepens deep v new_run h =
      Deepens-ends deep (spine s (head_of ls)) (spine s v) (spine s (tail_of ls)) (spine s (node i k run ls done))
      (spine s (node i k new_run (beside v (tail_of ls)) done)) o.spine_is
      (spine-ends s i k p q new_run (beside v (tail_of ls)) o.shape ∙ ap (λ n. 1 + n) (spine-join s v (tail_of ls))) h

  pub post-deepens : (deep : Option ℕ) (v : Trees) (new_run : List Elem) → Deepens deep (spine s (tail_of ls)) (spine s v)
      → Deepens (deeper 1 deep) (spine s (node i k run ls done)) (spine s (node i k new_run (beside (head_of ls) v) done))
  post-deepens deep v new_run h =
      let old : spine s (node i k run ls done) ≡ 1 + max (spine s (tail_of ls)) (spine s (head_of ls)) = let e = o.spine_is in omega arith in
      let new : spine s (node i k new_run (beside (head_of ls) v) done) ≡ 1 + max (spine s (head_of ls)) (spine s v) =
      spine-ends s i k p q new_run (beside (head_of ls) v) o.shape ∙ ap (λ n. 1 + n) (spine-join s (head_of ls) v) in
      Deepens-ends deep (spine s (tail_of ls)) (spine s v) (spine s (head_of ls)) (spine s (node i k run ls done))
      (spine s (node i k new_run (beside (head_of ls) v) done)) old (omega arith) h

  -- the same of what is told, where only the root changes before and after
  pub pre-goes : (b c d e : ArenaState) (deep : Option ℕ) (v : Trees) (new_run : List Elem) → GoesDeep s c d (head_of ls) v deep
      → ((j : ℕ) → node_at c j ≡ None → node_at b j ≡ None) → ((j : ℕ) → node_at c j ≡ None → node_at e j ≡ node_at d j)
      → GoesDeep s b e (node i k run ls done) (node i k new_run (beside v (tail_of ls)) done) (deeper 1 deep)
  pre-goes b c d e deep v new_run h first last =
      GoesDeep-within s b c d e (head_of ls) v (node i k run ls done) (node i k new_run (beside v (tail_of ls)) done) deep (deeper 1 deep) h
      (pre-deepens deep v new_run h.deepens) (deeper-none 1 deep) first last (λ j w. (parts-avoid j ls w.1).0) (λ j w. (beside-Avoids j v (tail_of ls) w.1).0)

  pub post-goes : (b c d e : ArenaState) (deep : Option ℕ) (v : Trees) (new_run : List Elem) → GoesDeep s c d (tail_of ls) v deep
      → ((j : ℕ) → node_at c j ≡ None → node_at b j ≡ None) → ((j : ℕ) → node_at c j ≡ None → node_at e j ≡ node_at d j)
      → GoesDeep s b e (node i k run ls done) (node i k new_run (beside (head_of ls) v) done) (deeper 1 deep)
  post-goes b c d e deep v new_run h first last =
      GoesDeep-within s b c d e (tail_of ls) v (node i k run ls done) (node i k new_run (beside (head_of ls) v) done) deep (deeper 1 deep) h
      (post-deepens deep v new_run h.deepens) (deeper-none 1 deep) first last (λ j w. (parts-avoid j ls w.1).1) (λ j w. (beside-Avoids j (head_of ls) v w.1).1)

  -- the least number of elements where the root hangs
  least-here : (m : ℕ) → k ≡ m → (whole s m).least ≤ 1
  least-here m e = subst (λ n. (whole s n).least ≤ 1) e (subst (λ sh. least_of (kind_at s k) sh ≤ 1) (sym o.shape) (omega (arith, o.lo)))

  module _ (c d : ArenaState) (v : Trees) (new_run zs : List Elem) (low : 1 ≤ length new_run) (high : length new_run ≤ (kind_at s k).hi) where
    -- another tree before the run
    pub pre-turned : Turns s p a c i (head_of ls) v → One v → ChangesNode c d i (Some (stored k new_run (beside v (tail_of ls))))
        → walk s v ++ (new_run ++ walk s (tail_of ls)) ≡ all_put_in zs (walk s (head_of ls) ++ (run ++ walk s (tail_of ls)))
        → PutsIn s a d zs (node i k run ls done) (node i k new_run (beside v (tail_of ls)) done)
    pre-turned r one ch walks =
        let is : ls ≡ beside (head_of ls) (tail_of ls) = parted ls in
        subst (λ w. PutsIn s a d zs (node i k run w done) (node i k new_run (beside v (tail_of ls)) done)) (sym is)
        (turned s a c d i k p q p run new_run zs done (head_of ls) v (tail_of ls) o.shape
        (subst (λ w. Stands a (node i k run w done)) is o.stands) (subst (λ w. IsReachedOnce (node i k run w done)) is o.once) r ch
        (λ m h. hang-node s i k p q run new_run (beside (head_of ls) (tail_of ls)) (beside v (tail_of ls)) o.shape low high
        (λ g. hang-join s (whole s p) (whole s q ∷ []) v (tail_of ls) r.hangs post-hangs) (whole s m) (least-here m h.0) h)
        (walk-two s i k p q new_run v (tail_of ls) o.shape one ∙ walks
        ∙ ap (all_put_in zs) (sym (walk-two s i k p q run (head_of ls) (tail_of ls) o.shape o.one))))

    -- another tree behind the run
    pub post-turned : Turns s q a c i (tail_of ls) v → ChangesNode c d i (Some (stored k new_run (beside (head_of ls) v)))
        → walk s (head_of ls) ++ (new_run ++ walk s v) ≡ all_put_in zs (walk s (head_of ls) ++ (run ++ walk s (tail_of ls)))
        → PutsIn s a d zs (node i k run ls done) (node i k new_run (beside (head_of ls) v) done)
    post-turned r ch walks =
        let u = head_of ls in
        let is : ls ≡ beside u (beside (tail_of ls) done) = parted ls ∙ ap (beside u) (sym (beside-done (tail_of ls))) in
        let new : beside u (beside v done) ≡ beside u v = ap (beside u) (beside-done v) in
        subst (λ w. PutsIn s a d zs (node i k run w done) (node i k new_run (beside u v) done)) (sym is)
        (subst (λ w. PutsIn s a d zs (node i k run (beside u (beside (tail_of ls) done)) done) (node i k new_run w done)) new
        (turned s a c d i k p q q run new_run zs u (tail_of ls) v done o.shape
        (subst (λ w. Stands a (node i k run w done)) is o.stands) (subst (λ w. IsReachedOnce (node i k run w done)) is o.once) r
        (subst (λ w. ChangesNode c d i (Some (stored k new_run w))) (sym new) ch)
        (λ m h. hang-node s i k p q run new_run (beside u (beside (tail_of ls) done)) (beside u (beside v done)) o.shape low high
        (λ g. hang-join s (whole s p) (whole s q ∷ []) u (beside v done) pre-hangs (subst (Hang s (whole s q ∷ [])) (sym (beside-done v)) r.hangs))
        (whole s m) (least-here m h.0) h)
        (ap (λ w. walk s (node i k new_run w done)) new ∙ walk-two s i k p q new_run u v o.shape o.one ∙ walks
        ∙ ap (all_put_in zs) (sym o.walk_is ∙ ap (λ w. walk s (node i k run w done)) is))))
