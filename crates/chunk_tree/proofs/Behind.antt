-- What stays behind a new node that goes in before it, and a new node with one element.
use Rattle.std.proofs.Common.{◌≡◌, ◌≤◌, ◌+◌, ℕ, max, List, [], ◌∷◌, ◌++◌, map, length, Option, Some, None, IsSome, is_some, true, refl, ap, ◌∙◌, sym, subst, arith, append-nil}
use Rattle.node_arena.specs.declared.elements.Elem.{Elem}
use Rattle.node_arena.specs.declared.kinds.NodeKind.{NodeKind}
use Rattle.node_arena.specs.declared.kinds.Shape.{Shape}
use Rattle.node_arena.specs.declared.kinds.Shape.TheVariants.{Flat, Post, Ends, Woven}
use Rattle.node_arena.specs.Arenas.{ArenaState, node_at, ChangesNode}
use Rattle.node_arena.specs.Conforming.{Hang, whole, IsLevel, IsLevelAt, spine, spine_by, places, least_of}
use Rattle.node_arena.specs.Kinds.{kind_at, shape_at}
use Rattle.node_arena.specs.Passing.{Deepens, wedge_depth}
use Rattle.node_arena.specs.Rules.{AreSound, HasSoundLinks, post_of}
use Rattle.node_arena.specs.Trees.{Trees, done, absent, node, roots, stored, Stands, Avoids, IsReachedOnce}
use Rattle.node_arena.specs.Walks.{link, parts, joined, walk, walks}
use Rattle.node_arena.proofs.ChangesLemmas.{node_differs}
use Rattle.node_arena.proofs.DepthsLemmas.{wedge_depth-ends}
use Rattle.node_arena.proofs.FramesLemmas.{Stands-changed, Avoids-free, IsApart-done}
use Rattle.node_arena.proofs.WalksLemmas.{joined-items, joined-links}
use Rattle.chunk_tree.specs.Writes.{links_before}
use Rattle.chunk_tree.specs.Ways.{has_two_links}
use Rattle.chunk_tree.proofs.Pairs.{walk-two, level-ends, spine-ends}
use Rattle.chunk_tree.proofs.Turning.{Turns}

-- ---- a new node before an old structure of the same kind

-- the links of a node of this kind, before an old structure
abbrev pub trees_before : Shape → Trees → Trees
trees_before Flat v = v
trees_before (Post q) v = v
trees_before (Ends p q) v = absent v
trees_before Woven v = v

-- these links, in place of the structure
pub record Behind (s : List NodeKind) (q : ℕ) (upper : List Elem) (v vs : Trees) : Type 0 where
  pub stands : (a : ArenaState) → Stands a v → Stands a vs
  pub avoids : (j : ℕ) → Avoids j v → Avoids j vs
  pub stays : (j : ℕ) → Avoids j vs → Avoids j v
  pub once : IsReachedOnce v → IsReachedOnce vs
  pub level : IsLevel s v → IsLevel s vs
  pub level_at : IsLevelAt s (shape_at s q) vs
  pub hangs : Hang s (whole s q ∷ []) v → Hang s (places s (shape_at s q) q upper vs) vs
  pub walk_is : (j : ℕ) → walk s (node j q upper vs done) ≡ upper ++ walk s v
  pub spine_low : (j : ℕ) → spine s (node j q upper vs done) ≤ 1 + spine s v
  pub deepens : (j : ℕ) (l : Option ℕ) → roots v ≡ l ∷ []
      → Deepens (wedge_depth (shape_at s q) (is_some l) 0) (spine s v) (spine s (node j q upper vs done))
  pub roots_are : (l : Option ℕ) → roots v ≡ l ∷ [] → roots vs ≡ links_before (shape_at s q) l
  pub least : (whole s q).least ≤ 1

behind-by : (s : List NodeKind) (q : ℕ) (upper : List Elem) (v : Trees) (sh : Shape) → shape_at s q ≡ sh → post_of sh ≡ Some q → (kind_at s q).lo ≡ 1
    → Behind s q upper v (trees_before sh v)
behind-by s q upper v Flat e is lo = cc
behind-by s q upper v Woven e is lo = cc
behind-by s q upper v (Post r) e is lo =
    let same : r ≡ q = cc (is) in
    let m : max (spine s v) 0 ≡ spine s v = omega arith in
    record {
      stands = λ a h. h;
      avoids = λ j h. h;
      stays = λ j h. h;
      once = λ h. h;
      level = λ h. h;
      level_at = subst (λ sh. IsLevelAt s sh v) (sym e) tt;
      hangs = λ h. subst (λ sh. Hang s (places s sh q upper v) v) (sym e) (subst (λ n. Hang s (whole s n ∷ []) v) (sym same) h);
      walk_is = λ j. append-nil (joined (parts (shape_at s q) upper (walks s v))) ∙ ap (λ sh. joined (parts sh upper (walks s v))) e
          ∙ joined-items upper (map link (walks s v)) ∙ ap (λ w. upper ++ w) (joined-links s v);
      spine_low = λ j. let n : spine s (node j q upper v done) ≡ spine s v = ap (λ sh. max (spine_by sh (spine s v)) 0) e ∙ m in omega arith;
      deepens = λ j l one. subst (λ sh. Deepens (wedge_depth sh (is_some l) 0) (spine s v) (spine s (node j q upper v done))) (sym e)
          (let n : spine s (node j q upper v done) ≡ spine s v = ap (λ sh. max (spine_by sh (spine s v)) 0) e ∙ m in omega arith);
      roots_are = λ l h. h ∙ ap (λ sh. links_before sh l) (sym e);
      least = subst (λ sh. least_of (kind_at s q) sh ≤ 1) (sym e) (omega arith);
    }
behind-by s q upper v (Ends p r) e is lo =
    let same : r ≡ q = cc (is) in
    record {
      stands = λ a h. h;
      avoids = λ j h. h;
      stays = λ j h. h;
      once = λ h. h;
      level = λ h. h;
      level_at = level-ends s q p r (absent v) e;
      hangs = λ h. subst (λ sh. Hang s (places s sh q upper (absent v)) (absent v)) (sym e) (refl, subst (λ n. Hang s (whole s n ∷ []) v) (sym same) h);
      walk_is = λ j. walk-two s j q p r upper (absent done) v e refl;
      spine_low = λ j. let n : spine s (node j q upper (absent v) done) ≡ 1 + spine s v = spine-ends s j q p r upper (absent v) e in omega arith;
      deepens = λ j l one. subst (λ sh. Deepens (wedge_depth sh (is_some l) 0) (spine s v) (spine s (node j q upper (absent v) done))) (sym e)
          (wedge_depth-ends s v p r (spine s (node j q upper (absent v) done)) l one (spine-ends s j q p r upper (absent v) e));
      roots_are = λ l h. ap (λ w. None ∷ w) h ∙ ap (λ sh. links_before sh l) (sym e);
      least = subst (λ sh. least_of (kind_at s q) sh ≤ 1) (sym e) (omega arith);
    }

lo-by : (s : List NodeKind) (q : ℕ) (sh : Shape) → post_of sh ≡ Some q → HasSoundLinks s (kind_at s q) sh → (kind_at s q).lo ≡ 1
lo-by s q Flat is h = cc
lo-by s q Woven is h = cc
lo-by s q (Post r) is h = h.0
lo-by s q (Ends p r) is h = h.0

-- the links of a new node whose kind is its own post kind
pub behind : (s : List NodeKind) (q : ℕ) (upper : List Elem) (v : Trees) → AreSound s → post_of (shape_at s q) ≡ Some q
    → Behind s q upper v (trees_before (shape_at s q) v)
behind s q upper v sound is = behind-by s q upper v (shape_at s q) refl is (lo-by s q (shape_at s q) is (sound.links q))

module _ (s : List NodeKind) (a m : ArenaState) (i q j : ℕ) (upper : List Elem) (v vs : Trees) where
  -- a new node has gone in before the structure
  pub wedge-turns : Behind s q upper v vs → Hang s (whole s q ∷ []) v → IsLevel s v → Stands a v → IsReachedOnce v → Avoids i v → IsSome (node_at a i)
      → 1 ≤ length upper → length upper ≤ (kind_at s q).hi → node_at a j ≡ None → ChangesNode a m j (Some (stored q upper vs))
      → Turns s q a m i v (node j q upper vs done)
  wedge-turns b hangs level st once av some low high free c =
      let fresh : Avoids j v = Avoids-free a v j free st in
      record {
        stands = (c.node.changed, b.stands m (Stands-changed v c fresh st), tt);
        once = (b.avoids j fresh, tt, IsApart-done vs, b.once once, tt);
        hangs = (refl, omega (arith, b.least), high, b.hangs hangs, refl);
        level = (b.level_at, b.level level, tt);
        spine_low = b.spine_low j;
        away = (node_differs a i j some free, b.avoids i av, tt);
        only = record {
          others = λ n old new. c.node.others n (λ z. new.1.0 (sym z));
          stays = λ n new. (new.0, b.stays n new.1.1, tt);
          news = λ n h w. (w.0, (node_differs a n j h free, b.avoids n w.1, tt), tt);
        };
      }

-- ---- a new node with one element

-- a node with two absent links
abbrev pub leaf_of : ℕ → ℕ → Elem → Trees
leaf_of j m x = node j m (x ∷ []) (absent (absent done)) done

-- a shape with two links
pub ends-of : (sh : Shape) → has_two_links sh ≡ true → (p : ℕ) × (q : ℕ) × (sh ≡ Ends p q)
ends-of Flat h = cc
ends-of (Post q) h = cc
ends-of (Ends p q) h = (p, q, refl)
ends-of Woven h = cc

module _ (s : List NodeKind) (x : Elem) (kind j : ℕ) (sound : AreSound s) (two : has_two_links (shape_at s kind) ≡ true) where
  pub leaf-walk : walk s (leaf_of j kind x) ≡ x ∷ []
  leaf-walk = let e = ends-of (shape_at s kind) two in walk-two s j kind e.0 e.1 (x ∷ []) (absent done) (absent done) e.2 refl

  -- its spine
  pub leaf-spine : spine s (leaf_of j kind x) ≡ 1
  leaf-spine = let e = ends-of (shape_at s kind) two in spine-ends s j kind e.0 e.1 (x ∷ []) (absent (absent done)) e.2

  -- nothing has become a leaf
  pub leaf-turns : (a m : ArenaState) (i : ℕ) (t : Trees) → t ≡ absent done → IsSome (node_at a i) → node_at a j ≡ None
      → ChangesNode a m j (Some (stored kind (x ∷ []) (absent (absent done)))) → Turns s kind a m i t (leaf_of j kind x)
  leaf-turns a m i t nothing some free c =
      let e = ends-of (shape_at s kind) two in
      let rule : HasSoundLinks s (kind_at s kind) (Ends e.0 e.1) = subst (HasSoundLinks s (kind_at s kind)) e.2 (sound.links kind) in
      let least : (whole s kind).least ≤ 1 = subst (λ sh. least_of (kind_at s kind) sh ≤ 1) (sym e.2) (omega (arith, rule.0)) in
      let hi : 1 ≤ (kind_at s kind).hi = omega (arith, sound.some kind, sound.bounds kind) in
      let n : spine s (leaf_of j kind x) ≡ 1 + 0 = spine-ends s j kind e.0 e.1 (x ∷ []) (absent (absent done)) e.2 in
      record {
        stands = (c.node.changed, tt, tt);
        once = (tt, tt, tt, tt, tt);
        hangs = (
          refl,
          omega arith,
          omega arith,
          subst (λ sh. Hang s (places s sh kind (x ∷ []) (absent (absent done))) (absent (absent done))) (sym e.2)
              (refl, (refl, refl)),
          refl,
        );
        level = (level-ends s kind e.0 e.1 (absent (absent done)) e.2, tt, tt);
        spine_low = omega arith;
        away = (node_differs a i j some free, tt, tt);
        only = record {
          others = λ n old new. c.node.others n (λ z. new.1.0 (sym z));
          stays = λ n new. (new.0, subst (Avoids n) (sym nothing) tt, tt);
          news = λ n h w. (w.0, (node_differs a n j h free, tt, tt), tt);
        };
      }
