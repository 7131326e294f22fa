-- Rows of nodes as the tests of rebalancing make them, for them alone.
use Rattle.std.proofs.Common.{◌≡◌, ◌≢◌, ◌≤◌, ◌<◌, ◌+◌, ◌/◌, inl, inr, ℕ, zero, suc, Bool, true, false, List, [], ◌∷◌, length, Option, Some, None, IsSome, IfSome, refl, ap, ◌∙◌, sym, subst, arith, append-nil}
use Rattle.node_arena.specs.declared.elements.Elem.{Elem}
use Rattle.node_arena.specs.declared.elements.Structure.{Structure}
use Rattle.node_arena.specs.declared.elements.Top.TheVariants as tops
use Rattle.node_arena.specs.declared.kinds.NodeKind.{NodeKind}
use Rattle.node_arena.specs.declared.kinds.Shape.TheVariants.{Flat, Post, Ends}
use Rattle.node_arena.specs.Arenas.{ArenaState, node_at, ChangesNode}
use Rattle.node_arena.specs.Conforming.{Hang, whole, places, least_of, IsLevel, IsLevelAt, IsRising, RisesFrom, spine, spine_by}
use Rattle.node_arena.specs.Kinds.{kind_at, shape_at}
use Rattle.node_arena.specs.Rules.{AreSound, Serves, HasSoundLinks, post_of}
use Rattle.node_arena.specs.Structures.{Tree, empty, rooted, flat, links_of, top_of, IsStructure}
use Rattle.node_arena.specs.Trees.{Trees, done, absent, node, roots, Stands, IsReachedOnce}
use Rattle.node_arena.specs.Walks.{joined, walk, walks, parts}
use Rattle.node_arena.proofs.FramesLemmas.{Stands-changed, Avoids-free, IsApart-done}
use Rattle.bulk_build.specs.Building.{IsAsBefore}
use Rattle.chunk_tree.specs.RowTrials.{root_shape, AreForRows, IsRow, woven_kinds}
use Rattle.chunk_tree.specs.Trials.{IsRooted}
use Rattle.chunk_tree.specs.Relinking.{root_at}
use Rattle.chunk_tree.proofs.Pairs.{no-more, walk-two, spine-ends, level-ends}
use Rattle.node_arena.proofs.WalksLemmas.{joined-links}

-- ---- kinds

-- two kinds, of which the first leads to the second
pub rows-kinds : (chained : Bool) (first second : NodeKind) → first.shape ≡ root_shape chained → second.shape ≡ Ends 1 1
    → first.lo ≡ 1 → second.lo ≡ 1 → 1 ≤ first.hi → first.hi ≤ 2 → 1 ≤ second.hi → second.hi ≤ 2 → AreForRows (first ∷ second ∷ []) chained
rows-kinds chained first second e f lo1 lo2 some1 few1 some2 few2 = record {
  sound = record { some = low; bounds = bound; few = most; links = rule };
  root = e;
  rest = f;
  short = short;
}
  where
    low : (k : ℕ) → 1 ≤ (kind_at (first ∷ second ∷ []) k).lo
    low zero = omega arith
    low (suc zero) = omega arith
    low (suc (suc k)) = omega arith

    bound : (k : ℕ) → (kind_at (first ∷ second ∷ []) k).lo ≤ (kind_at (first ∷ second ∷ []) k).hi
    bound zero = omega arith
    bound (suc zero) = omega arith
    bound (suc (suc k)) = omega arith

    short : (k : ℕ) → (kind_at (first ∷ second ∷ []) k).hi ≤ 2
    short zero = few1
    short (suc zero) = few2
    short (suc (suc k)) = omega arith

    most : (k : ℕ) → (kind_at (first ∷ second ∷ []) k).hi ≤ 16
    most zero = omega arith
    most (suc zero) = omega arith
    most (suc (suc k)) = omega arith

    half : (n m : ℕ) → n ≤ 2 → 1 ≤ m → (n + 1) / 2 ≤ m
    half n m l g = omega arith

    second-isnt-flat : second.shape ≢ Flat
    second-isnt-flat z = let both : Ends 1 1 ≡ Flat = sym f ∙ z in cc

    root-rule : (c : Bool) → HasSoundLinks (first ∷ second ∷ []) first (root_shape c)
    root-rule true = (lo1, (omega arith, inr (ap post_of f, half first.hi second.hi few1 some2)))
    root-rule false = (lo1, omega arith, second-isnt-flat, (omega arith, inr (ap post_of f, half first.hi second.hi few1 some2)))

    rule : (k : ℕ) → HasSoundLinks (first ∷ second ∷ []) (kind_at (first ∷ second ∷ []) k) (shape_at (first ∷ second ∷ []) k)
    rule zero = subst (HasSoundLinks (first ∷ second ∷ []) first) (sym e) (root-rule chained)
    rule (suc zero) = subst (HasSoundLinks (first ∷ second ∷ []) second) (sym f)
        (lo2, omega arith, second-isnt-flat, (omega arith, inr (ap post_of f, half second.hi second.hi few2 some2)))
    rule (suc (suc k)) = tt

-- their runs fit into nodes of two elements
pub rows-serve : (s : List NodeKind) (chained : Bool) (a : ArenaState) → AreForRows s chained → 2 ≤ a.nodes.most → Serves s a
rows-serve s chained a h most k = let l : (kind_at s k).hi ≤ 2 = h.short k in omega arith

-- ---- rows

head-same : (x y : Option ℕ) (xs ys : List (Option ℕ)) → x ∷ xs ≡ y ∷ ys → x ≡ y
head-same x y xs ys e = cc

tail-same : (x y : Option ℕ) (xs ys : List (Option ℕ)) → x ∷ xs ≡ y ∷ ys → xs ≡ ys
tail-same x y xs ys e = cc

number-same : (i j : ℕ) → Some i ≡ Some j → i ≡ j
number-same i j e = cc

module _ (s : List NodeKind) (chained : Bool) (h : AreForRows s chained) where
  own-rule : HasSoundLinks s (kind_at s 1) (Ends 1 1)
  own-rule = subst (HasSoundLinks s (kind_at s 1)) h.rest (h.sound.links 1)

  -- nothing yet
  pub row-none : (a : ArenaState) (n : ℕ) → IsRow s 1 a None n n
  row-none a n = record {
    tree = absent done;
    root = refl;
    stands = tt;
    once = tt;
    hangs = (refl, refl);
    level = tt;
    spine_low = omega arith;
    counted = omega arith;
    rises = λ m l. tt;
    rising = tt;
  }

  rises-more : (n from : ℕ) (x : Elem) (xs : List Elem) → n < from → x.at ≡ from → RisesFrom from xs → RisesFrom n (x ∷ xs)
  rises-more n from x xs l e r = (omega arith, subst (λ m. RisesFrom m xs) (sym e) r)

  -- a node with two links before the row
  pub row-more : (k : ℕ) (a b : ArenaState) (below : Option ℕ) (from next upto j : ℕ) (x : Elem) → shape_at s k ≡ Ends 1 1
      → IsRow s 1 a below next upto → from + 1 ≡ next → x.at ≡ from → node_at a j ≡ None
      → ChangesNode a b j (Some (record { kind = k; run = x ∷ []; links = None ∷ below ∷ [] })) → IsRow s k b (Some j) from upto
  row-more k a b below from next upto j x shape r step at free c =
      let rule : HasSoundLinks s (kind_at s k) (Ends 1 1) = subst (HasSoundLinks s (kind_at s k)) shape (h.sound.links k) in
      let least : (whole s k).least ≤ 1 = subst (λ sh. least_of (kind_at s k) sh ≤ 1) (sym shape) (omega (arith, rule.0)) in
      let hi : 1 ≤ (kind_at s k).hi = omega (arith, h.sound.some k, h.sound.bounds k) in
      let w : walk s (node j k (x ∷ []) (absent r.tree) done) ≡ x ∷ walk s r.tree =
      walk-two s j k 1 1 (x ∷ []) (absent done) r.tree shape refl in
      let n : spine s (node j k (x ∷ []) (absent r.tree) done) ≡ 1 + spine s r.tree = spine-ends s j k 1 1 (x ∷ []) (absent r.tree) shape in
      let low = r.spine_low in
      let len : length (walk s (node j k (x ∷ []) (absent r.tree) done)) ≡ suc (length (walk s r.tree)) = ap length w in
      let count = r.counted in
      record {
        tree = node j k (x ∷ []) (absent r.tree) done;
        root = refl;
        stands = (
          subst (λ l. node_at b j ≡ Some (record { kind = k; run = x ∷ []; links = None ∷ l })) (sym r.root) c.node.changed,
          Stands-changed r.tree c (Avoids-free a r.tree j free r.stands) r.stands,
          tt,
        );
        once = (Avoids-free a r.tree j free r.stands, tt, IsApart-done r.tree, r.once, tt);
        hangs = (
          refl,
          omega arith,
          omega arith,
          subst (λ sh. Hang s (places s sh k (x ∷ []) (absent r.tree)) (absent r.tree)) (sym shape) (refl, r.hangs),
          refl,
        );
        level = (level-ends s k 1 1 (absent r.tree) shape, r.level, tt);
        spine_low = omega arith;
        counted = omega arith;
        rises = λ m l. subst (RisesFrom m) (sym w) (rises-more m from x (walk s r.tree) l at (r.rises from (omega arith)));
        rising = subst IsRising (sym w) (subst (λ m. RisesFrom m (walk s r.tree)) (sym at) (r.rises from (omega arith)));
      }

  -- a node with one link before the row
  pub row-behind : (k : ℕ) (a b : ArenaState) (below : Option ℕ) (from next upto j : ℕ) (x : Elem) → shape_at s k ≡ Post 1
      → IsRow s 1 a below next upto → from + 1 ≡ next → x.at ≡ from → node_at a j ≡ None
      → ChangesNode a b j (Some (record { kind = k; run = x ∷ []; links = below ∷ [] })) → IsRow s k b (Some j) from upto
  row-behind k a b below from next upto j x shape r step at free c =
      let rule : HasSoundLinks s (kind_at s k) (Post 1) = subst (HasSoundLinks s (kind_at s k)) shape (h.sound.links k) in
      let least : (whole s k).least ≤ 1 = subst (λ sh. least_of (kind_at s k) sh ≤ 1) (sym shape) (omega (arith, rule.0)) in
      let hi : 1 ≤ (kind_at s k).hi = omega (arith, h.sound.some k, h.sound.bounds k) in
      let w : walk s (node j k (x ∷ []) r.tree done) ≡ x ∷ walk s r.tree =
      append-nil (joined (parts (shape_at s k) (x ∷ []) (walks s r.tree))) ∙ ap (λ sh. joined (parts sh (x ∷ []) (walks s r.tree))) shape
      ∙ ap (λ z. x ∷ z) (joined-links s r.tree) in
      let m : spine_by (shape_at s k) (spine s r.tree) ≡ spine s r.tree = ap (λ sh. spine_by sh (spine s r.tree)) shape in
      let low = r.spine_low in
      let len : length (walk s (node j k (x ∷ []) r.tree done)) ≡ suc (length (walk s r.tree)) = ap length w in
      let count = r.counted in
      record {
        tree = node j k (x ∷ []) r.tree done;
        root = refl;
        stands = (
          subst (λ l. node_at b j ≡ Some (record { kind = k; run = x ∷ []; links = l })) (sym r.root) c.node.changed,
          Stands-changed r.tree c (Avoids-free a r.tree j free r.stands) r.stands,
          tt,
        );
        once = (Avoids-free a r.tree j free r.stands, tt, IsApart-done r.tree, r.once, tt);
        hangs = (
          refl,
          omega arith,
          omega arith,
          subst (λ sh. Hang s (places s sh k (x ∷ []) r.tree) r.tree) (sym shape) r.hangs,
          refl,
        );
        level = (subst (λ sh. IsLevelAt s sh r.tree) (sym shape) tt, r.level, tt);
        spine_low = omega arith;
        counted = omega arith;
        rises = λ m l. subst (RisesFrom m) (sym w) (rises-more m from x (walk s r.tree) l at (r.rises from (omega arith)));
        rising = subst IsRising (sym w) (subst (λ m. RisesFrom m (walk s r.tree)) (sym at) (r.rises from (omega arith)));
      }

-- ---- structures

isnt-flat : (s : List NodeKind) (chained : Bool) → AreForRows s chained → shape_at s 0 ≢ Flat
isnt-flat s true h e = let z : Post 1 ≡ Flat = sym h.root ∙ e in cc
isnt-flat s false h e = let z : Ends 1 1 ≡ Flat = sym h.root ∙ e in cc

no-rest : (x y : Option ℕ) (t : Trees) → x ∷ roots t ≡ y ∷ [] → t ≡ done
no-rest x y t e = no-more t (ap length (tail-same x y (roots t) [] e))

-- a row is a structure
pub row-holds : (s : List NodeKind) (chained : Bool) (a : ArenaState) (i n : ℕ) → AreForRows s chained → IsRow s 0 a (Some i) 0 n → n ≤ 96
    → (t : Tree) × IsStructure s 0 a (record { top = tops.Node i; len = n; spine = n }) t
row-holds s chained a i n h r few = by r.tree r.root r.stands r.once r.hangs r.level r.spine_low r.counted r.rising
  where
    by : (t : Trees) → roots t ≡ Some i ∷ [] → Stands a t → IsReachedOnce t → Hang s (whole s 0 ∷ []) t → IsLevel s t → spine s t + 0 ≤ n
        → length (walk s t) + 0 ≡ n → IsRising (walk s t) → (u : Tree) × IsStructure s 0 a (record { top = tops.Node i; len = n; spine = n }) u
    by done e st o g l low count up = cc
    by (absent t) e st o g l low count up = let f = head-same _ _ _ _ e in cc
    by (node j k run ls t) e st o g l low count up = with_rest t (no-rest (Some j) (Some i) t e) e st o g l low count up
      where
        with_rest : (t : Trees) → t ≡ done → Some j ∷ roots t ≡ Some i ∷ [] → Stands a (node j k run ls t) → IsReachedOnce (node j k run ls t)
            → Hang s (whole s 0 ∷ []) (node j k run ls t) → IsLevel s (node j k run ls t) → spine s (node j k run ls t) + 0 ≤ n
            → length (walk s (node j k run ls t)) + 0 ≡ n → IsRising (walk s (node j k run ls t))
            → (u : Tree) × IsStructure s 0 a (record { top = tops.Node i; len = n; spine = n }) u
        with_rest (absent t) z e st o g l low count up = cc
        with_rest (node m p q r t) z e st o g l low count up = cc
        with_rest done z e st o g l low count up =
            let same : j ≡ i = number-same j i (head-same (Some j) (Some i) [] [] e) in (
              rooted j k run ls,
              record {
                stands = record { top = ap tops.Node (sym same); nodes = st; once = o; run = tt; counted = omega arith };
                conforms = record {
                  tree = (isnt-flat s chained h, record { hangs = g; level = l; low = omega arith; rising = up });
                  spine_kept = omega arith;
                  spine_low = omega arith;
                };
              },
            )

-- ---- what stands

top-of : (a : ArenaState) (t : Tree) → Stands a (links_of t) → IfSome (root_at (top_of t)) (IsRooted a) × IfSome (root_at (top_of t))
    (λ i. IsSome (node_at a i))
top-of a empty h = (tt, tt)
top-of a (flat i run) h = (tt, tt)
top-of a (rooted i k run ls) h = (record { trees = node i k run ls done; roots_are = refl; stands = h }, subst IsSome (sym h.0) refl)

-- the root of a structure stands
pub holds-rooted : (s : List NodeKind) (a : ArenaState) (st : Structure) (t : Tree) → IsStructure s 0 a st t
    → IfSome (root_at st.top) (IsRooted a) × IfSome (root_at st.top) (λ i. IsSome (node_at a i))
holds-rooted s a st t h =
    subst (λ q. IfSome (root_at q) (IsRooted a) × IfSome (root_at q) (λ i. IsSome (node_at a i))) (sym h.stands.top) (top-of a t h.stands.nodes)

Stands-before : (a b : ArenaState) (t : Trees) → IsAsBefore a b → Stands a t → Stands b t
Stands-before a b done e h = tt
Stands-before a b (absent t) e h = Stands-before a b t e h
Stands-before a b (node i k run ls t) e h = (e.nodes i ∙ h.0, Stands-before a b ls e h.1, Stands-before a b t e h.2)

-- and so it does where all nodes are as before
pub before-rooted : (s : List NodeKind) (a b : ArenaState) (st : Structure) (t : Tree) → IsStructure s 0 a st t → IsAsBefore a b
    → IfSome (root_at st.top) (IsRooted b) × IfSome (root_at st.top) (λ i. IsSome (node_at b i))
before-rooted s a b st t h e =
    subst (λ q. IfSome (root_at q) (IsRooted b) × IfSome (root_at q) (λ i. IsSome (node_at b i))) (sym h.stands.top)
    (top-of b t (Stands-before a b (links_of t) e h.stands.nodes))

-- ---- between woven nodes

-- the kinds keep the rules
pub woven-sound : AreSound woven_kinds
woven-sound = record { some = low; bounds = bound; few = most; links = rule }
  where
    low : (k : ℕ) → 1 ≤ (kind_at woven_kinds k).lo
    low zero = omega arith
    low (suc zero) = omega arith
    low (suc (suc k)) = omega arith

    bound : (k : ℕ) → (kind_at woven_kinds k).lo ≤ (kind_at woven_kinds k).hi
    bound zero = omega arith
    bound (suc zero) = omega arith
    bound (suc (suc k)) = omega arith

    most : (k : ℕ) → (kind_at woven_kinds k).hi ≤ 16
    most zero = omega arith
    most (suc zero) = omega arith
    most (suc (suc k)) = omega arith

    rule : (k : ℕ) → HasSoundLinks woven_kinds (kind_at woven_kinds k) (shape_at woven_kinds k)
    rule zero = (refl, omega arith, (λ e. cc), (omega arith, inl refl))
    rule (suc zero) = (omega arith, omega arith)
    rule (suc (suc k)) = tt

-- their runs fit into nodes of two elements
pub woven-serve : (a : ArenaState) → 2 ≤ a.nodes.most → Serves woven_kinds a
woven-serve a most zero = omega arith
woven-serve a most (suc zero) = omega arith
woven-serve a most (suc (suc k)) = omega arith

-- a node between two woven ones is a structure
pub woven-holds : (a b c d : ArenaState) (i j r spine : ℕ) (x0 x1 x2 x3 : Elem) → x0.at ≡ 0 → x1.at ≡ 1 → x2.at ≡ 2 → x3.at ≡ 3
    → node_at a i ≡ None → ChangesNode a b i (Some (record { kind = 1; run = x0 ∷ []; links = [] }))
    → node_at b j ≡ None → ChangesNode b c j (Some (record { kind = 1; run = x3 ∷ []; links = [] }))
    → node_at c r ≡ None → ChangesNode c d r (Some (record { kind = 0; run = x1 ∷ x2 ∷ []; links = Some i ∷ Some j ∷ [] }))
    → 1 ≤ spine → spine ≤ 96 → (t : Tree) × IsStructure woven_kinds 0 d (record { top = tops.Node r; len = 4; spine = spine }) t
woven-holds a b c d i j r sp x0 x1 x2 x3 e0 e1 e2 e3 free1 c1 free2 c2 free3 c3 some few =
    let leaf : Trees = node i 1 (x0 ∷ []) done done in
    let row : Trees = node i 1 (x0 ∷ []) done (node j 1 (x3 ∷ []) done done) in
    let st1 : Stands b leaf = (c1.node.changed, tt, tt) in
    let away = Avoids-free b leaf j free2 st1 in
    let st2 = Stands-changed leaf c2 away st1 in
    let st3 : Stands c row = (st2.0, tt, (c2.node.changed, tt, tt)) in
    let out = Avoids-free c row r free3 st3 in
    let st4 = Stands-changed row c3 out st3 in (
      rooted r 0 (x1 ∷ x2 ∷ []) row,
      record {
        stands = record {
          top = refl;
          nodes = (c3.node.changed, st4, tt);
          once = (out, tt, (tt, tt, (tt, tt, tt)), (tt, ((λ e. away.0 (sym e)), tt, tt), tt, tt, (tt, tt, tt, tt, tt)), tt);
          run = tt;
          counted = refl;
        };
        conforms = record {
          tree = (
            (λ e. cc),
            record {
              hangs = (
                refl,
                omega arith,
                omega arith,
                (refl, omega arith, omega arith, refl, (refl, omega arith, omega arith, refl, refl)),
                refl,
              );
              level = (tt, (tt, tt, (tt, tt, tt)), tt);
              low = omega arith;
              rising = (omega arith, (omega arith, (omega arith, tt)));
            },
          );
          spine_kept = omega arith;
          spine_low = few;
        };
      },
    )

-- ---- nothing

-- an empty structure
pub nothing-holds : (s : List NodeKind) (a : ArenaState) (n : ℕ) → n ≤ 96 → IsStructure s 0 a (record { top = tops.Empty; len = 0; spine = n }) empty
nothing-holds s a n few = record {
  stands = record { top = refl; nodes = tt; once = tt; run = tt; counted = refl };
  conforms = record { tree = tt; spine_kept = omega arith; spine_low = few };
}
