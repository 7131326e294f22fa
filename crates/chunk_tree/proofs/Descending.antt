-- One step down a tree of nodes with two links.
use Rattle.std.proofs.Common.{◌≡◌, ◌≤◌, ◌<◌, ◌+◌, ℕ, Bool, true, false, List, [], ◌∷◌, ◌++◌, length, get_or, Option, Some, None, IsSome, refl, ap, ◌∙◌, sym, subst, arith, cond}
use Rattle.node_arena.specs.declared.elements.Elem.{Elem}
use Rattle.node_arena.specs.declared.elements.Side.{Side}
use Rattle.node_arena.specs.declared.elements.Side.TheVariants as sides
use Rattle.node_arena.specs.declared.elements.TheConstants.{MOST_SPINE}
use Rattle.node_arena.specs.declared.kinds.NodeKind.{NodeKind}
use Rattle.node_arena.specs.Arenas.{ArenaState, NodeState, node_at, ChangesNode}
use Rattle.node_arena.specs.Conforming.{Hang, whole, IsLevel, spine, IsRising, Conform}
use Rattle.node_arena.specs.Kinds.{kind_at, shape_at}
use Rattle.node_arena.specs.Passing.{IsDone, deeper}
use Rattle.node_arena.specs.Rules.{AreSound}
use Rattle.node_arena.specs.Trees.{Trees, done, absent, node, roots, stored, Stands, Avoids, IsReachedOnce}
use Rattle.node_arena.specs.Walks.{walk}
use Rattle.node_arena.proofs.ChangesLemmas.{KeepsOutside-only}
use Rattle.node_arena.proofs.DepthsLemmas.{deeper-first, deeper-deeper}
use Rattle.node_arena.proofs.PlacesLemmas.{hang-none}
use Rattle.node_arena.proofs.RowsLemmas.{beside, roots-beside}
use Rattle.chunk_tree.specs.Descents.{Chunks, IsWithin, Comes, Finds}
use Rattle.chunk_tree.specs.Ways.{Takes, next_on, first_of, last_of, link_in, kind_on, has_two_links}
use Rattle.chunk_tree.proofs.Behind.{ends-of}
use Rattle.chunk_tree.proofs.Opening.{Opened, opened, pre-hangs, post-hangs, both-stand, both-avoid, both-once, both-level, pre-rises, post-rises, some-node, length-walk, lacks-parts, pre-turned, post-turned, pre-goes, post-goes}
use Rattle.chunk_tree.proofs.Order.{goes-pre, goes-post}
use Rattle.chunk_tree.proofs.Pairs.{head_of, tail_of, parted, One, roots-head, roots-tail}
use Rattle.chunk_tree.proofs.Turning.{Turns, with-only}

-- ---- the root

-- the root, as what is read of it
pub open-chunks : (s : List NodeKind) (a : ArenaState) (i : ℕ) (t : Trees) → AreSound s → (c : Chunks s a i t)
    → Opened s a i c.kind c.pre c.post c.run c.links
open-chunks s a i t sound c =
    opened s a i c.kind c.pre c.post c.run c.links sound c.shape (subst (Stands a) c.is c.stands) (subst IsReachedOnce c.is c.once)
    (subst (Conform s c.kind) c.is c.conforms)

-- the node that is read is the root
pub is_stored : (s : List NodeKind) (a : ArenaState) (i k p q : ℕ) (run : List Elem) (ls : Trees) (n : NodeState) → Opened s a i k p q run ls
    → node_at a i ≡ Some n → n ≡ stored k run ls
is_stored s a i k p q run ls n o e = let same : n ≡ stored k run ls = cc (o.stands.0, e) in same

-- the root is there
pub chunks-some : (s : List NodeKind) (a : ArenaState) (i : ℕ) (t : Trees) → Chunks s a i t → IsSome (node_at a i)
chunks-some s a i t c = let st = subst (Stands a) c.is c.stands in subst IsSome (sym st.0) refl

-- ---- what is done to a part

-- no node is written
unchanged : (a : ArenaState) (i : ℕ) (n : NodeState) → node_at a i ≡ Some n → ChangesNode a a i (Some n)
unchanged a i n e = record { node = record { changed = e; others = λ j h. refl; most = refl; places = refl }; runs = refl }

-- what has x put in has become another tree
pub turns-done : (s : List NodeKind) (p : ℕ) (a b : ArenaState) (x : Elem) (i : ℕ) (t : Trees) → Hang s (whole s p ∷ []) t → IsLevel s t → Avoids i t
    → IsSome (node_at a i) → (deep : Option ℕ) → (r : IsDone s a b x t deep) → Turns s p a b i t r.tree
turns-done s p a b x i t hang level av some deep r = record {
  stands = r.puts.stands;
  once = r.puts.once;
  hangs = r.puts.hangs p hang;
  level = r.puts.level level;
  spine_low = r.puts.spine_low;
  away = r.puts.only.news i some av;
  only = with-only a b i t r.tree r.puts.only;
}

module _ (s : List NodeKind) (a : ArenaState) (x : Elem) (i k p q : ℕ) (run : List Elem) (ls : Trees) (o : Opened s a i k p q run ls) where
  -- through the first link
  pub lift-pre : x.at < first_of run → IsWithin s a x 1 (head_of ls) (node i k run ls done)
  lift-pre less = record {
    lift = λ b deep r.
        let v = tail_of ls in
        let one : One r.tree = ap length r.same_root ∙ o.one in
        let ch : ChangesNode b b i (Some (stored k run (beside r.tree v))) = unchanged b i (stored k run (beside r.tree v))
        (KeepsOutside-only a b (head_of ls) r.tree r.puts.only i (some-node s a i k p q run ls o) (both-avoid s a i k p q run ls o).0 ∙ o.stands.0
        ∙ ap (λ w. Some (record { kind = k; run = run; links = w }))
        (ap roots (parted ls) ∙ roots-beside (head_of ls) v ∙ ap (λ w. w ++ roots v) (sym r.same_root) ∙ sym (roots-beside r.tree v))) in
        record {
          tree = node i k run (beside r.tree v) done;
          same_root = refl;
          puts = pre-turned s a i k p q run ls o b b r.tree run (x ∷ []) o.low o.high
              (turns-done s p a b x i (head_of ls) (pre-hangs s a i k p q run ls o) (both-level s a i k p q run ls o).0 (both-avoid s a i k p q run ls o).0
              (some-node s a i k p q run ls o) deep r)
              one ch
              (ap (λ w. w ++ (run ++ walk s v)) r.puts.walk_is ∙ sym (goes-pre x (walk s (head_of ls)) run (walk s v) o.low less));
          goes = pre-goes s a i k p q run ls o a a b b deep r.tree run r.goes (λ j free. free) (λ j free. refl);
        };
    lacks = λ h. (lacks-parts s a i k p q run ls o x.at h).0;
    spine_low = let e = o.spine_is in omega arith;
    fewer = let e = length-walk s a i k p q run ls o in omega arith;
  }

  -- through the second link
  pub lift-post : last_of run < x.at → IsWithin s a x 1 (tail_of ls) (node i k run ls done)
  lift-post more = record {
    lift = λ b deep r.
        let u = head_of ls in
        let ch : ChangesNode b b i (Some (stored k run (beside u r.tree))) = unchanged b i (stored k run (beside u r.tree))
        (KeepsOutside-only a b (tail_of ls) r.tree r.puts.only i (some-node s a i k p q run ls o) (both-avoid s a i k p q run ls o).1 ∙ o.stands.0
        ∙ ap (λ w. Some (record { kind = k; run = run; links = w }))
        (ap roots (parted ls) ∙ roots-beside u (tail_of ls) ∙ ap (λ w. roots u ++ w) (sym r.same_root) ∙ sym (roots-beside u r.tree))) in
        record {
          tree = node i k run (beside u r.tree) done;
          same_root = refl;
          puts = post-turned s a i k p q run ls o b b r.tree run (x ∷ []) o.low o.high
              (turns-done s q a b x i (tail_of ls) (post-hangs s a i k p q run ls o) (both-level s a i k p q run ls o).1 (both-avoid s a i k p q run ls o).1
              (some-node s a i k p q run ls o) deep r)
              ch
              (ap (λ w. walk s u ++ (run ++ w)) r.puts.walk_is ∙ sym (goes-post x (walk s u) run (walk s (tail_of ls)) o.low o.rising more));
          goes = post-goes s a i k p q run ls o a a b b deep r.tree run r.goes (λ j free. free) (λ j free. refl);
        };
    lacks = λ h. (lacks-parts s a i k p q run ls o x.at h).2;
    spine_low = let e = o.spine_is in omega arith;
    fewer = let e = length-walk s a i k p q run ls o in omega arith;
  }

-- a part of a part
within-trans : (s : List NodeKind) (a : ArenaState) (x : Elem) (n m : ℕ) (t u v : Trees) → IsWithin s a x n t u → IsWithin s a x m u v
    → IsWithin s a x (m + n) t v
within-trans s a x n m t u v h g = record {
  lift = λ b deep r. subst (IsDone s a b x v) (deeper-deeper m n deep) (g.lift b (deeper n deep) (h.lift b deep r));
  lacks = λ l. h.lacks (g.lacks l);
  spine_low = let e = h.spine_low in let f = g.spine_low in omega arith;
  fewer = let e = h.fewer in let f = g.fewer in omega arith;
}

-- ---- the next node

-- the structure at a link, if its kind has two links
chunk-at : (s : List NodeKind) (a : ArenaState) (p c : ℕ) (u : Trees) → has_two_links (shape_at s p) ≡ true → Hang s (whole s p ∷ []) u → Stands a u
    → IsReachedOnce u
    → IsLevel s u → IsRising (walk s u) → spine s u ≤ MOST_SPINE → get_or (roots u) 0 None ≡ Some c → Chunks s a c u
chunk-at s a p c done two h st once level up most e = cc
chunk-at s a p c (absent u) two h st once level up most e = cc
chunk-at s a p c (node j m r ls u) two h st once level up most e =
    let number : j ≡ c = cc (e) in
    let none : u ≡ done = hang-none s u h.4 in
    let sh = ends-of (shape_at s p) two in
    record {
      kind = p;
      run = r;
      links = ls;
      is = ap (λ w. node j m r ls w) none ∙ ap (λ n. node n m r ls done) number ∙ ap (λ n. node c n r ls done) h.0;
      pre = sh.0;
      post = sh.1;
      shape = sh.2;
      stands = st;
      once = once;
      conforms = record { hangs = h; level = level; low = most; rising = up };
    }

if-some : (b : Bool) (l : Option ℕ) (c : ℕ) → cond b l None ≡ Some c → (b ≡ true) × (l ≡ Some c)
if-some true l c e = (refl, e)
if-some false l c e = cc

-- the tree on the way
abbrev pub tree_on : Option Side → Trees → Trees
tree_on None t = done
tree_on (Some sides.Pre) t = head_of t
tree_on (Some sides.Post) t = tail_of t

module _ (s : List NodeKind) (a : ArenaState) (i : ℕ) (t : Trees) (n : NodeState) (sound : AreSound s) where
  pub chunks-next : (way : Option Side) (c : ℕ) → (h : Chunks s a i t) → node_at a i ≡ Some n → next_on s n way ≡ Some c
      → Chunks s a c (tree_on way h.links)
  chunks-next None c h e next = cc
  chunks-next (Some sides.Pre) c h e next =
      let o = open-chunks s a i t sound h in
      let same : n ≡ stored h.kind h.run h.links = is_stored s a i _ _ _ _ _ n o e in
      let two = if-some (has_two_links (shape_at s (kind_on (shape_at s n.kind) sides.Pre))) (link_in n 0) c next in
      let kind : kind_on (shape_at s n.kind) sides.Pre ≡ h.pre = ap (λ v. kind_on (shape_at s v.kind) sides.Pre) same
      ∙ ap (λ sh. kind_on sh sides.Pre) h.shape in
      let most : spine s (node i h.kind h.run h.links done) ≤ MOST_SPINE = subst (λ u. spine s u ≤ MOST_SPINE) h.is h.conforms.low in
      chunk-at s a h.pre c (head_of h.links) (subst (λ m. has_two_links (shape_at s m) ≡ true) kind two.0) (pre-hangs s a i _ _ _ _ _ o)
      (both-stand s a i _ _ _ _ _ o).0 (both-once s a i _ _ _ _ _ o).0 (both-level s a i _ _ _ _ _ o).0 (pre-rises s a i _ _ _ _ _ o)
      (omega (arith, o.spine_is)) (roots-head h.links ∙ subst (λ v. link_in v 0 ≡ Some c) same two.1)
  chunks-next (Some sides.Post) c h e next =
      let o = open-chunks s a i t sound h in
      let same : n ≡ stored h.kind h.run h.links = is_stored s a i _ _ _ _ _ n o e in
      let two = if-some (has_two_links (shape_at s (kind_on (shape_at s n.kind) sides.Post))) (link_in n 1) c next in
      let kind : kind_on (shape_at s n.kind) sides.Post ≡ h.post = ap (λ v. kind_on (shape_at s v.kind) sides.Post) same
      ∙ ap (λ sh. kind_on sh sides.Post) h.shape in
      let most : spine s (node i h.kind h.run h.links done) ≤ MOST_SPINE = subst (λ u. spine s u ≤ MOST_SPINE) h.is h.conforms.low in
      chunk-at s a h.post c (tail_of h.links) (subst (λ m. has_two_links (shape_at s m) ≡ true) kind two.0) (post-hangs s a i _ _ _ _ _ o)
      (both-stand s a i _ _ _ _ _ o).1 (both-once s a i _ _ _ _ _ o).1 (both-level s a i _ _ _ _ _ o).1 (post-rises s a i _ _ _ _ _ o)
      (omega (arith, o.spine_is)) (roots-tail h.links ∙ subst (λ v. link_in v 1 ≡ Some c) same two.1)

  within-next : (x : Elem) (way : Option Side) (c hi : ℕ) → (h : Chunks s a i t) → node_at a i ≡ Some n → Takes hi x.at n way → next_on s n way ≡ Some c
      → IsWithin s a x 1 (tree_on way h.links) t
  within-next x None c hi h e takes next = cc
  within-next x (Some sides.Pre) c hi h e takes next =
      let o = open-chunks s a i t sound h in
      let same : n ≡ stored h.kind h.run h.links = is_stored s a i _ _ _ _ _ n o e in
      subst (IsWithin s a x 1 (head_of h.links)) (sym h.is) (lift-pre s a x i h.kind h.pre h.post h.run h.links o
      (subst (λ v. x.at < first_of v.run) same takes.0))
  within-next x (Some sides.Post) c hi h e takes next =
      let o = open-chunks s a i t sound h in
      let same : n ≡ stored h.kind h.run h.links = is_stored s a i _ _ _ _ _ n o e in
      subst (IsWithin s a x 1 (tail_of h.links)) (sym h.is) (lift-post s a x i h.kind h.pre h.post h.run h.links o
      (subst (λ v. last_of v.run < x.at) same takes.0))

module _ (s : List NodeKind) (a : ArenaState) (x : Elem) (i above : ℕ) (t : Trees) (n : NodeState) (sound : AreSound s) where
  pub comes-next : (way : Option Side) (c : ℕ) → Comes s a x i above t → node_at a i ≡ Some n → Takes (kind_at s n.kind).hi x.at n way
      → next_on s n way ≡ Some c → Comes s a x c (above + 1) t
  comes-next way c m e takes next = record {
    tree = tree_on way m.chunks.links;
    chunks = chunks-next s a i m.tree n sound way c m.chunks e next;
    within = within-trans s a x 1 above (tree_on way m.chunks.links) m.tree t (within-next s a i m.tree n sound x way c
        (kind_at s n.kind).hi m.chunks e takes next) m.within;
  }

  pub finds : (way : Option Side) → Comes s a x i above t → node_at a i ≡ Some n → Takes (kind_at s n.kind).hi x.at n way → next_on s n way ≡ None
      → Finds s a x i way above t
  finds way m e takes none = record { comes = m; old = n; there = e; takes = takes; ends = none }

-- few are above a node on the way
pub comes-few : (s : List NodeKind) (a : ArenaState) (x : Elem) (i above : ℕ) (t : Trees) → AreSound s → spine s t ≤ MOST_SPINE → Comes s a x i above t
    → above < MOST_SPINE
comes-few s a x i above t sound most m =
    let o = open-chunks s a i m.tree sound m.chunks in
    let is : spine s m.tree ≡ spine s (node i m.chunks.kind m.chunks.run m.chunks.links done) = ap (spine s) m.chunks.is in
    omega (arith, o.spine_is, m.within.spine_low)

-- the whole tree
pub comes-first : (s : List NodeKind) (a : ArenaState) (x : Elem) (i : ℕ) (t : Trees) → Chunks s a i t → Comes s a x i 0 t
comes-first s a x i t h = record {
  tree = t;
  chunks = h;
  within = record {
    lift = λ b deep r. subst (IsDone s a b x t) (sym (deeper-first deep)) r;
    lacks = λ l. l;
    spine_low = omega arith;
    fewer = omega arith;
  };
}
