-- A structure of a woven kind that conforms is a row of one tree, and the other way round.
use Rattle.std.proofs.Common.{◌≡◌, ◌≤◌, ◌+◌, inl, inr, ℕ, suc, true, false, List, [], ◌∷◌, length, drop, Option, Some, refl, ap, ◌∙◌, sym, subst, arith}
use Rattle.node_arena.specs.declared.elements.Elem.{Elem}
use Rattle.node_arena.specs.declared.kinds.NodeKind.{NodeKind}
use Rattle.node_arena.specs.declared.kinds.Shape.TheVariants.{Woven}
use Rattle.node_arena.specs.Trees.{Trees, done, absent, node, roots}
use Rattle.node_arena.specs.Kinds.{kind_at, shape_at}
use Rattle.node_arena.specs.Walks.{walk}
use Rattle.node_arena.specs.Conforming.{Place, Hang, IsLevel, IsLevelAt, AllHigh, places, woven_places, children, whole, least_of, height, spine, spine_by, IsRising, Conform}
use Rattle.btree_nodes.specs.Weaving.{IsRow, IsFan, IsWovenKind}

-- no links
pub no-roots : (t : Trees) → roots t ≡ [] → t ≡ done
no-roots done e = refl
no-roots (absent t) e = cc
no-roots (node i k run ls t) e = cc

-- all places are for this kind, with this least number of elements
abbrev pub AllPlaces : ℕ → ℕ → List Place → Type 0
AllPlaces k low [] = Unit {0}
AllPlaces k low (p ∷ ps) = (p.kind ≡ k) × (p.least ≡ low) × AllPlaces k low ps

-- no place may be empty
abbrev pub AllMust : List Place → Type 0
AllMust [] = Unit {0}
AllMust (p ∷ ps) = (p.must ≡ true) × AllMust ps

children-all : (p : Place) (run : List Elem) → AllPlaces p.kind p.least (children p run)
children-all p [] = (refl, refl, tt)
children-all p (x ∷ run) = (refl, refl, children-all p run)

children-must : (p : Place) (run : List Elem) → p.must ≡ true → AllMust (children p run)
children-must p [] e = (e, tt)
children-must p (x ∷ run) e = (e, children-must p run e)

woven-all : (p : Place) (run : List Elem) (ls : Trees) → AllPlaces p.kind p.least (woven_places p run ls)
woven-all p run done = tt
woven-all p run (absent t) = children-all p run
woven-all p run (node i m r ls t) = children-all p run

woven-must : (p : Place) (run : List Elem) (ls : Trees) → p.must ≡ true → AllMust (woven_places p run ls)
woven-must p run done e = tt
woven-must p run (absent t) e = children-must p run e
woven-must p run (node i m r ls t) e = children-must p run e

count-children : (p : Place) (run : List Elem) → length (children p run) ≡ length run + 1
count-children p [] = refl
count-children p (x ∷ run) = let ih : length (children p run) ≡ length run + 1 = count-children p run in omega arith

count-hang : (s : List NodeKind) (ps : List Place) (t : Trees) → Hang s ps t → length (roots t) ≡ length ps
count-hang s ps done h = ap length (sym h)
count-hang s [] (absent t) h = absurd h
count-hang s (p ∷ ps) (absent t) h = ap suc (count-hang s ps t h.1)
count-hang s [] (node i m run ls t) h = absurd h
count-hang s (p ∷ ps) (node i m run ls t) h = ap suc (count-hang s ps t h.4)

fan-of : (s : List NodeKind) (p : Place) (run : List Elem) (ls : Trees) → Hang s (woven_places p run ls) ls → IsFan run ls
fan-of s p run done h = inl refl
fan-of s p run (absent t) h = inr (count-hang s (children p run) (absent t) h ∙ count-children p run)
fan-of s p run (node i m r ls t) h = inr (count-hang s (children p run) (node i m r ls t) h ∙ count-children p run)

no_done : (ls : Trees) → (1 ≤ length (roots ls)) → ls ≡ done → ⊥
no_done ls l e = let f : length (roots ls) ≡ 0 = ap (λ t. length (roots t)) e in omega arith

woven-hang : (s : List NodeKind) (p : Place) (run : List Elem) (ls : Trees) → IsFan run ls
    → ((ps : List Place) → AllPlaces p.kind p.least ps → length (roots ls) ≡ length ps → Hang s ps ls) → Hang s (woven_places p run ls) ls
woven-hang s p run done fan f = refl
woven-hang s p run (absent t) (inl none) f = absurd (no_done (absent t) (omega arith) none)
woven-hang s p run (absent t) (inr count) f = f (children p run) (children-all p run) (count ∙ sym (count-children p run))
woven-hang s p run (node i m r ls t) (inl none) f = absurd (no_done (node i m r ls t) (omega arith) none)
woven-hang s p run (node i m r ls t) (inr count) f = f (children p run) (children-all p run) (count ∙ sym (count-children p run))

module _ (s : List NodeKind) (k : ℕ) (kind : IsWovenKind s k) where
  abbrev inside : ℕ → Place
  inside m = record { kind = m; least = (kind_at s m).lo; must = true }

  pub row-of : (low h : ℕ) (ps : List Place) (t : Trees) → AllPlaces k low ps → AllMust ps → Hang s ps t → IsLevel s t → AllHigh s h t → IsRow s k low h t
  row-of low h ps done a m g l e = tt
  row-of low h [] (absent t) a m g l e = g
  row-of low h (p ∷ ps) (absent t) a m g l e = let f : false ≡ true = sym g.0 ∙ m.0 in cc
  row-of low h [] (node i j run ls t) a m g l e = absurd g
  row-of low h (p ∷ ps) (node i j run ls t) a m g l e =
      let same : j ≡ k = g.0 ∙ a.0 in
      let shape : shape_at s j ≡ Woven = ap (shape_at s) same ∙ kind.shape in
      let hang : Hang s (woven_places (inside j) run ls) ls = subst (λ sh. Hang s (places s sh j run ls) ls) shape g.3 in
      let hang2 : Hang s (woven_places (inside k) run ls) ls = subst (λ q. Hang s (woven_places (inside q) run ls) ls) same hang in
      let high : AllHigh s (height s ls) ls = subst (λ sh. IsLevelAt s sh ls) shape l.0 in (
        same,
        subst (λ n. n ≤ length run) a.1 g.1,
        subst (λ q. length run ≤ (kind_at s q).hi) same g.2,
        fan-of s (inside k) run ls hang2,
        e.0,
        row-of (kind_at s k).lo (height s ls) (woven_places (inside k) run ls) ls (woven-all (inside k) run ls) (woven-must (inside k) run ls refl) hang2
            l.1 high,
        row-of low h ps t a.2 m.1 g.4 l.2 e.1,
      )

  pub hang-of : (low h : ℕ) (ps : List Place) (t : Trees) → AllPlaces k low ps → length (roots t) ≡ length ps → IsRow s k low h t → Hang s ps t
  hang-of low h [] done a c r = refl
  hang-of low h (p ∷ ps) done a c r = absurd (omega arith)
  hang-of low h ps (absent t) a c r = absurd r
  hang-of low h [] (node i j run ls t) a c r = absurd (omega arith)
  hang-of low h (p ∷ ps) (node i j run ls t) a c r =
      let inner : Hang s (woven_places (inside k) run ls) ls = woven-hang s (inside k) run ls r.3
      (λ qs b d. hang-of (kind_at s k).lo (height s ls) qs ls b d r.5) in
      let here : Hang s (places s (shape_at s k) k run ls) ls = subst (λ sh. Hang s (places s sh k run ls) ls) (sym kind.shape) inner in (
        r.0 ∙ sym a.0,
        subst (λ n. n ≤ length run) (sym a.1) r.1,
        subst (λ q. length run ≤ (kind_at s q).hi) (sym r.0) r.2,
        subst (λ q. Hang s (places s (shape_at s q) q run ls) ls) (sym r.0) here,
        hang-of low h ps t a.2 (omega arith) r.6,
      )

  pub level-of : (low h : ℕ) (t : Trees) → IsRow s k low h t → IsLevel s t × AllHigh s h t
  level-of low h done r = (tt, tt)
  level-of low h (absent t) r = absurd r
  level-of low h (node i j run ls t) r =
      let inner = level-of (kind_at s k).lo (height s ls) ls r.5 in
      let beside = level-of low h t r.6 in
      let shape : shape_at s j ≡ Woven = ap (shape_at s) r.0 ∙ kind.shape in
      ((subst (λ sh. IsLevelAt s sh ls) (sym shape) inner.1, inner.0, beside.0), (r.4, beside.1))

  pub spine-of : (low h : ℕ) (t : Trees) → IsRow s k low h t → spine s t ≡ 0
  spine-of low h done r = refl
  spine-of low h (absent t) r = absurd r
  spine-of low h (node i j run ls t) r =
      let shape : spine_by (shape_at s j) (spine s ls) ≡ 0 = ap (λ sh. spine_by sh (spine s ls)) (ap (shape_at s) r.0 ∙ kind.shape) in
      let beside : spine s t ≡ 0 = spine-of low h t r.6 in
      omega arith

  whole-least : (whole s k).least ≡ 1
  whole-least = ap (least_of (kind_at s k)) kind.shape

  -- one tree of a row conforms, and has no spine
  pub conform-of : (h : ℕ) (t : Trees) → IsRow s k 1 h t → length (roots t) ≡ 1 → IsRising (walk s t) → Conform s k t × ((n : ℕ) → spine s t ≤ n)
  conform-of h t r one up =
      let z : spine s t ≡ 0 = spine-of 1 h t r in (
        record {
          hangs = hang-of 1 h (whole s k ∷ []) t (refl, whole-least, tt) one r;
          level = (level-of 1 h t r).0;
          low = omega arith;
          rising = up;
        },
        λ n. omega arith,
      )

  -- the root of a tree that conforms
  pub record Rooted (i : ℕ) (t : Trees) : Type 0 where
    pub run : List Elem
    pub links : Trees
    pub is : t ≡ node i k run links done
    pub row : IsRow s k 1 (height s t) t

  pub rooted-of : (i : ℕ) (t : Trees) → roots t ≡ Some i ∷ [] → Conform s k t → Rooted i t
  rooted-of i done e c = cc
  rooted-of i (absent t) e c = cc
  rooted-of i (node j m run ls t) e c =
      let number : j ≡ i = cc (e) in
      let none : t ≡ done = no-roots t (ap (λ (q : List (Option ℕ)). drop 1 q) e) in
      let alone : Conform s k (node j m run ls done) = subst (λ u. Conform s k (node j m run ls u)) none c in
      let g = alone.hangs in
      let same : m ≡ k = g.0 in
      let must : Place = record { kind = k; least = 1; must = true } in
      let low : 1 ≤ length run = subst (λ n. n ≤ length run) whole-least g.1 in
      let row : IsRow s k 1 (1 + height s ls) (node j m run ls done) =
      row-of 1 (1 + height s ls) (must ∷ []) (node j m run ls done) (refl, refl, tt) (refl, tt) (g.0, low, g.2, g.3, refl) alone.level (refl, tt) in
      record {
        run = run;
        links = ls;
        is = ap (λ n. node n m run ls t) number ∙ ap (λ q. node i q run ls t) same ∙ ap (node i k run ls) none;
        row = subst (λ u. IsRow s k 1 (1 + height s ls) (node j m run ls u)) (sym none) row;
      }

-- a row of one tree
pub record OneTree (k i : ℕ) (t : Trees) : Type 0 where
  pub run : List Elem
  pub links : Trees
  pub is : t ≡ node i k run links done

-- a row with one root is one tree
pub one_tree : (s : List NodeKind) (k low h i : ℕ) (t : Trees) → IsRow s k low h t → roots t ≡ Some i ∷ [] → OneTree k i t
one_tree s k low h i done r e = cc
one_tree s k low h i (absent t) r e = absurd r
one_tree s k low h i (node j m run ls t) r e =
    let number : j ≡ i = cc (e) in
    let none : t ≡ done = no-roots t (ap (λ (q : List (Option ℕ)). drop 1 q) e) in
    record { run = run; links = ls; is = ap (λ n. node n m run ls t) number ∙ ap (λ q. node i q run ls t) r.0 ∙ ap (λ u. node i k run ls u) none }
