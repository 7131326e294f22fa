-- Woven nodes, made above their children.
use Rattle.std.proofs.Common.{◌≡◌, ◌≤◌, ◌<◌, ◌+◌, ◌*◌, ◌^◌, ℕ, zero, suc, max, true, false, List, [], ◌∷◌, ◌++◌, length, Option, Some, None, refl, ap, ◌∙◌, sym, subst, arith, append-nil}
use Rattle.std.proofs.Math.Nat.{pow-suc, pow-zero}
use Rattle.node_arena.specs.declared.elements.Elem.{Elem}
use Rattle.node_arena.specs.declared.kinds.NodeKind.{NodeKind}
use Rattle.node_arena.specs.declared.kinds.Shape.TheVariants.{Woven}
use Rattle.node_arena.specs.Arenas.{ArenaState, node_at, ChangesNode}
use Rattle.node_arena.specs.Kinds.{kind_at, shape_at}
use Rattle.node_arena.specs.Trees.{Trees, done, absent, node, roots, stored}
use Rattle.node_arena.specs.Walks.{parts, weave, joined, walks}
use Rattle.node_arena.specs.Conforming.{Place, Hang, whole, children, places, least_of, height, AllHigh, IsLevelAt, spine, spine_by}
use Rattle.bulk_build.specs.Layouts.{Builds, FitsLevels, Weaves, behind, laced, child_place, Laces}
use Rattle.bulk_build.proofs.AddsLemmas.{adds-done, adds-before, adds-node}

-- elements without links
pub joined-alone : (es : List Elem) → joined (weave es []) ≡ es
joined-alone [] = refl
joined-alone (x ∷ xs) = ap (λ w. x ∷ w) (joined-alone xs)

-- one place more than elements
pub children-behind : (p : Place) (run : List Elem) → children p run ≡ p ∷ behind p run
children-behind p [] = refl
children-behind p (x ∷ xs) = ap (λ w. p ∷ w) (children-behind p xs)

no-nil : (p : Place) (ps : List Place) → p ∷ ps ≡ [] → ⊥
no-nil p ps h = cc

-- the first link, and then each element with the link behind it
pub joined-laced : (s : List NodeKind) (k : ℕ) (w : List Elem) (run : List Elem) (row : Trees) → Hang s (behind (child_place s k) run) row
    → joined (weave run (w ∷ walks s row)) ≡ w ++ laced run (walks s row)
joined-laced s k w [] done h = refl
joined-laced s k w [] (absent row) h = absurd h
joined-laced s k w [] (node i m r ls row) h = absurd h
joined-laced s k w (x ∷ run) done h = absurd (no-nil (child_place s k) (behind (child_place s k) run) h)
joined-laced s k w (x ∷ run) (absent row) h = let e : true ≡ false = h.0 in cc
joined-laced s k w (x ∷ run) (node i m r ls row) h =
    ap (λ v. w ++ x ∷ v) (joined-laced s k (joined (parts (shape_at s m) r (walks s ls))) run row h.4)

-- as many links as elements
pub laced-count : (s : List NodeKind) (p : Place) (run : List Elem) (row : Trees) → Hang s (behind p run) row → length (roots row) ≡ length run
laced-count s p [] done h = refl
laced-count s p [] (absent row) h = absurd h
laced-count s p [] (node i m r ls row) h = absurd h
laced-count s p (x ∷ run) done h = absurd (no-nil p (behind p run) h)
laced-count s p (x ∷ run) (absent row) h = ap suc (laced-count s p run row h.1)
laced-count s p (x ∷ run) (node i m r ls row) h = ap suc (laced-count s p run row h.4)

-- as many later children as elements
pub laces-count : (s : List NodeKind) (k n : ℕ) (a b : ArenaState) (es run : List Elem) (links : List (Option ℕ)) → Laces s k n a b es run links
    → length links ≡ length run
laces-count s k n a b es run links l = ap length (sym l.links_are) ∙ laced-count s (child_place s k) run l.row l.hangs

module _ (s : List NodeKind) (k : ℕ) (shape : shape_at s k ≡ Woven) where
  -- a node without children
  pub woven-leaf : (a b : ArenaState) (i room : ℕ) (es : List Elem) → FitsLevels ((kind_at s k).hi + 1) 0 room (length es + 1)
      → node_at a i ≡ None → ChangesNode a b i (Some (record { kind = k; run = es; links = [] })) → Weaves s k 0 room a b es i
  woven-leaf a b i room es f free ch =
      let w = (kind_at s k).hi + 1 in
      let one : w ^ zero ≡ 1 = pow-zero w in
      let two : w ^ suc zero ≡ w ^ zero * w = pow-suc w zero in
      let three : w ^ zero * w ≡ 1 * w = ap (λ v. v * w) one in
      let r : room ≡ (kind_at s k).hi + 1 = omega (arith, f.room_is, two, three) in
      let g : length es + 1 ≤ room = f.fits in
      let n : w ^ zero < length es + 1 = f.needed in
      record {
        run = es;
        links = done;
        adds = adds-node a a b i k es done (adds-done a) free ch;
        some = omega arith;
        few = omega arith;
        half = λ h. omega arith;
        hangs = refl;
        level = (subst (λ sh. IsLevelAt s sh done) (sym shape) tt, tt, tt);
        high = refl;
        walk_is = append-nil (joined (parts (shape_at s k) es [])) ∙ ap (λ sh. joined (parts sh es [])) shape ∙ joined-alone es;
      }

  -- no children behind the first
  pub laces-none : (a : ArenaState) (n : ℕ) (es : List Elem) → length es ≡ 0 → Laces s k n a a es [] []
  laces-none a n [] e = record { row = done; links_are = refl; adds = adds-done a; hangs = refl; level = tt; high = tt; walk_is = refl }
  laces-none a n (x ∷ es) e = absurd (omega arith)

  -- one child more, and the element before it
  pub laces-more : (a m b : ArenaState) (n room i : ℕ) (x : Elem) (xs es run : List Elem) (links : List (Option ℕ)) → 2 * (kind_at s k).lo ≤ (kind_at s k).hi
      → room ≤ 2 * (length xs + 1) → Laces s k (suc n) a m es run links → Weaves s k n room m b xs i
      → Laces s k (suc n) a b (x ∷ (xs ++ es)) (x ∷ run) (Some i ∷ links)
  laces-more a m b n room i x xs es run links lo full l c =
      let h : (kind_at s k).hi ≤ 2 * length c.run + 1 = c.half full in
      let high : height s c.links ≡ n = c.high in
      let w = joined (parts (shape_at s k) c.run (walks s c.links)) in
      let walked : w ≡ xs = sym (append-nil w) ∙ c.walk_is in
      record {
        row = node i k c.run c.links l.row;
        links_are = ap (λ r. Some i ∷ r) l.links_are;
        adds = adds-before a m b l.row (node i k c.run c.links done) l.adds c.adds;
        hangs = (refl, omega arith, c.few, subst (λ sh. Hang s (places s sh k c.run c.links) c.links) (sym shape) c.hangs, l.hangs);
        level = (c.level.0, c.level.1, l.level);
        high = (omega arith, l.high);
        walk_is = ap (λ v. x ∷ (v ++ laced run (walks s l.row))) walked ∙ ap (λ v. x ∷ (xs ++ v)) l.walk_is;
      }

  -- a node above its first child and the others
  pub woven-node : (a m n b : ArenaState) (h room wide i j : ℕ) (xs es run : List Elem) (links : List (Option ℕ)) → 2 * (kind_at s k).lo ≤ (kind_at s k).hi
      → room ≤ 2 * (length xs + 1) → 1 ≤ length run → length run ≤ (kind_at s k).hi
      → (wide ≤ 2 * (length (xs ++ es) + 1) → (kind_at s k).hi ≤ 2 * length run + 1)
      → Laces s k (suc h) a m es run links → Weaves s k h room m n xs j
      → node_at n i ≡ None → ChangesNode n b i (Some (record { kind = k; run = run; links = Some j ∷ links }))
      → Weaves s k (suc h) wide a b (xs ++ es) i
  woven-node a m n b h room wide i j xs es run links lo full some few half l c free ch =
      let row = node j k c.run c.links l.row in
      let ch2 : ChangesNode n b i (Some (stored k run row)) =
      subst (λ r. ChangesNode n b i (Some (record { kind = k; run = run; links = Some j ∷ r }))) (sym l.links_are) ch in
      let enough : (kind_at s k).hi ≤ 2 * length c.run + 1 = c.half full in
      let below : height s c.links ≡ h = c.high in
      let deep : suc h ≡ 1 + height s c.links = omega arith in
      let w = joined (parts (shape_at s k) c.run (walks s c.links)) in
      let walked : w ≡ xs = sym (append-nil w) ∙ c.walk_is in
      record {
        run = run;
        links = row;
        adds = adds-node a n b i k run row (adds-before a m n l.row (node j k c.run c.links done) l.adds c.adds) free ch2;
        some = some;
        few = few;
        half = half;
        hangs = subst (λ ps. Hang s ps row) (sym (children-behind (child_place s k) run))
            (refl, omega arith, c.few, subst (λ sh. Hang s (places s sh k c.run c.links) c.links) (sym shape) c.hangs, l.hangs);
        level = (
          subst (λ sh. IsLevelAt s sh row) (sym shape) (refl, subst (λ v. AllHigh s v l.row) deep l.high),
          (c.level.0, c.level.1, l.level),
          tt,
        );
        high = sym deep;
        walk_is = append-nil (joined (parts (shape_at s k) run (w ∷ walks s l.row))) ∙ ap (λ sh. joined (parts sh run (w ∷ walks s l.row))) shape
            ∙ joined-laced s k w run l.row l.hangs ∙ ap (λ v. v ++ laced run (walks s l.row)) walked ∙ ap (λ v. xs ++ v) l.walk_is;
      }

  -- a woven node may be a root
  pub woven-root : (a b : ArenaState) (n room i : ℕ) (es : List Elem) → Weaves s k n room a b es i → Builds s (whole s k) a b es (Some i)
  woven-root a b n room i es c = record {
    tree = node i k c.run c.links done;
    root_is = refl;
    adds = c.adds;
    hangs = (
      refl,
      subst (λ sh. least_of (kind_at s k) sh ≤ length c.run) (sym shape) c.some,
      c.few,
      subst (λ sh. Hang s (places s sh k c.run c.links) c.links) (sym shape) c.hangs,
      refl,
    );
    level = c.level;
    walk_is = c.walk_is;
    spine_low = λ d h.
        let z : max 0 0 ≡ 0 = omega arith in
        let e : spine s (node i k c.run c.links done) ≡ 0 = ap (λ sh. max (spine_by sh (spine s c.links)) 0) shape ∙ z in
        omega arith;
  }
