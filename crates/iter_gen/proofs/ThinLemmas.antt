-- Structures of nodes with one element each, made above what was added before.
use Rattle.std.proofs.Common.{◌≡◌, ◌≢◌, ◌≤◌, ◌<◌, ◌+◌, ◌-◌, ◌*◌, ℕ, zero, suc, max, List, [], ◌∷◌, ◌++◌, map, length, take, drop}
use Rattle.std.proofs.Common.{Option, Some, None, refl, ap, ◌∙◌, sym, subst, arith, append-nil}
use Rattle.std.proofs.lemmas.List.{take-append-drop, length-take-le}
use Rattle.dt_model.specs.declared.declared_tensors.Schema.{Schema}
use Rattle.node_arena.specs.declared.elements.Elem.{Elem}
use Rattle.node_arena.specs.declared.elements.Structure.{Structure}
use Rattle.node_arena.specs.declared.elements.TheConstants.{MOST_SPINE}
use Rattle.node_arena.specs.declared.kinds.NodeKind.{NodeKind}
use Rattle.node_arena.specs.declared.kinds.Shape.TheVariants.{Flat, Post, Ends, Woven}
use Rattle.node_arena.specs.Arenas.{ArenaState, node_at, ChangesNode}
use Rattle.node_arena.specs.Conforming.{Hang, IsLevel, IsLevelAt, IsRising, height, whole, places, least_of, spine, spine_by}
use Rattle.node_arena.specs.Kinds.{kind_at, shape_at, kinds_of, root_of}
use Rattle.node_arena.specs.Structures.{empty, rooted}
use Rattle.node_arena.specs.Trees.{Trees, done, absent, node, roots, stored}
use Rattle.node_arena.specs.Walks.{link, parts, joined, walk, walks}
use Rattle.node_arena.proofs.RowsLemmas.{beside, roots-beside, walks-beside}
use Rattle.bulk_build.specs.Layouts.{Adds, Weaves, top_at}
use Rattle.bulk_build.proofs.AddsLemmas.{adds-done, adds-absent, adds-behind, adds-node}
use Rattle.bulk_build.proofs.RangesLemmas.{drop-parted, length-part, take-rest}
use Rattle.bulk_build.proofs.RowsLemmas.{hang-beside, hang-none, level-beside, spine-beside, joined-items, joined-links, walks-one}
use Rattle.bulk_build.proofs.WeavingLemmas.{joined-alone}
use Rattle.iter_gen.specs.Trials.{IsThin, Grows, thin_size}
use Rattle.iter_gen.specs.Walkers.{CanBeWalked}

-- nothing grows of no elements
pub grows-none : (s : List NodeKind) (k : ℕ) (a : ArenaState) (es : List Elem) (deep : ℕ) → length es ≡ 0 → Grows s k a a es deep None
grows-none s k a [] deep e = record {
  tree = absent done;
  root_is = refl;
  adds = adds-absent a;
  hangs = (refl, refl);
  level = tt;
  walk_is = refl;
  low = omega arith;
}
grows-none s k a (x ∷ es) deep e = absurd (omega arith)

-- a greater bound of the spine
pub grows-deeper : (s : List NodeKind) (k : ℕ) (a b : ArenaState) (es : List Elem) (m n : ℕ) (root : Option ℕ) → m ≤ n → Grows s k a b es m root
    → Grows s k a b es n root
grows-deeper s k a b es m n root l g = record {
  tree = g.tree;
  root_is = g.root_is;
  adds = g.adds;
  hangs = g.hangs;
  level = g.level;
  walk_is = g.walk_is;
  low = let low : spine s g.tree ≤ m = g.low in omega arith;
}

module _ (s : List NodeKind) (k : ℕ) (a b : ArenaState) (i : ℕ) (run : List Elem) (one : length run ≡ 1) where
  -- a node above one link
  pub grows-post : (p : ℕ) (m : ArenaState) (es : List Elem) (deep : ℕ) (next : Option ℕ) → IsThin s k (Post p) → Grows s p a m es deep next
      → node_at m i ≡ None → ChangesNode m b i (Some (record { kind = k; run = run; links = next ∷ [] })) → Grows s k a b (run ++ es) deep (Some i)
  grows-post p m es deep next thin l free ch =
      let e = thin.shape_is in
      let ch2 : ChangesNode m b i (Some (stored k run l.tree)) =
      subst (λ r. ChangesNode m b i (Some (record { kind = k; run = run; links = r }))) (sym l.root_is) ch in
      let walked : walk s (node i k run l.tree done) ≡ run ++ walk s l.tree =
      append-nil (joined (parts (shape_at s k) run (walks s l.tree))) ∙ ap (λ sh. joined (parts sh run (walks s l.tree))) e
      ∙ joined-items run (map link (walks s l.tree)) ∙ ap (λ w. run ++ w) (joined-links s l.tree) in
      let same : spine s (node i k run l.tree done) ≡ spine s l.tree =
      let z : max (spine s l.tree) 0 ≡ spine s l.tree = omega arith in ap (λ sh. max (spine_by sh (spine s l.tree)) 0) e ∙ z in
      record {
        tree = node i k run l.tree done;
        root_is = refl;
        adds = adds-node a m b i k run l.tree l.adds free ch2;
        hangs = (
          refl,
          subst (λ sh. least_of (kind_at s k) sh ≤ length run) (sym e) (let lo : (kind_at s k).lo ≡ 1 = thin.lo in omega arith),
          let hi : 1 ≤ (kind_at s k).hi = thin.hi in omega arith,
          subst (λ sh. Hang s (places s sh k run l.tree) l.tree) (sym e) l.hangs,
          refl,
        );
        level = (subst (λ sh. IsLevelAt s sh l.tree) (sym e) tt, l.level, tt);
        walk_is = walked ∙ ap (λ w. run ++ w) l.walk_is;
        low = let low : spine s l.tree ≤ deep = l.low in omega (arith, same, low);
      }

  -- a node between two links
  pub grows-ends : (p q : ℕ) (m n : ArenaState) (xs ys : List Elem) (deep : ℕ) (pre post : Option ℕ) → IsThin s k (Ends p q)
      → Grows s p a m xs deep pre → Grows s q m n ys deep post
      → node_at n i ≡ None → ChangesNode n b i (Some (record { kind = k; run = run; links = pre ∷ post ∷ [] }))
      → Grows s k a b (xs ++ (run ++ ys)) (1 + deep) (Some i)
  grows-ends p q m n xs ys deep pre post thin l u free ch =
      let e = thin.shape_is in
      let row = beside l.tree u.tree in
      let rs : roots row ≡ pre ∷ post ∷ [] = roots-beside l.tree u.tree ∙ ap (λ w. w ++ roots u.tree) l.root_is ∙ ap (λ w. pre ∷ w) u.root_is in
      let ch2 : ChangesNode n b i (Some (stored k run row)) =
      subst (λ r. ChangesNode n b i (Some (record { kind = k; run = run; links = r }))) (sym rs) ch in
      let ws : walks s row ≡ walk s l.tree ∷ walks s u.tree =
      walks-beside s l.tree u.tree ∙ ap (λ w. w ++ walks s u.tree) (walks-one s l.tree pre l.root_is) in
      let walked : walk s (node i k run row done) ≡ walk s l.tree ++ (run ++ walk s u.tree) =
      append-nil (joined (parts (shape_at s k) run (walks s row))) ∙ ap (λ sh. joined (parts sh run (walks s row))) e
      ∙ ap (λ w. joined (parts (Ends p q) run w)) ws
      ∙ ap (λ w. walk s l.tree ++ w) (joined-items run (map link (walks s u.tree)) ∙ ap (λ w. run ++ w) (joined-links s u.tree)) in
      let high : spine s (node i k run row done) ≡ 1 + spine s row =
      let z : max (1 + spine s row) 0 ≡ 1 + spine s row = omega arith in ap (λ sh. max (spine_by sh (spine s row)) 0) e ∙ z in
      record {
        tree = node i k run row done;
        root_is = refl;
        adds = adds-node a n b i k run row (adds-behind a m n l.tree u.tree l.adds u.adds) free ch2;
        hangs = (
          refl,
          subst (λ sh. least_of (kind_at s k) sh ≤ length run) (sym e) (let lo : (kind_at s k).lo ≡ 1 = thin.lo in omega arith),
          let hi : 1 ≤ (kind_at s k).hi = thin.hi in omega arith,
          subst (λ sh. Hang s (places s sh k run row) row) (sym e) (hang-beside s (whole s p) (whole s q ∷ []) l.tree u.tree l.hangs u.hangs),
          refl,
        );
        level = (subst (λ sh. IsLevelAt s sh row) (sym e) tt, level-beside s l.tree u.tree l.level u.level, tt);
        walk_is = walked ∙ ap (λ w. w ++ (run ++ walk s u.tree)) l.walk_is ∙ ap (λ w. xs ++ (run ++ w)) u.walk_is;
        low =
            let both : spine s row ≡ max (spine s l.tree) (spine s u.tree) = spine-beside s l.tree u.tree in
            let first : spine s l.tree ≤ deep = l.low in
            let second : spine s u.tree ≤ deep = u.low in
            omega (arith, high, both, first, second);
      }

-- the parts of a list beside one of its elements
pub parts-whole : (es : List Elem) (n : ℕ) → n < length es
    → take n es ++ (take (n + 1 - n) (drop n es) ++ take (length es - (n + 1)) (drop (n + 1) es)) ≡ es
parts-whole es n l =
    ap (λ w. take n es ++ (take (n + 1 - n) (drop n es) ++ w)) (take-rest es (n + 1))
    ∙ ap (λ w. take n es ++ w) (sym (drop-parted es n (n + 1) (omega arith))) ∙ take-append-drop n es

-- how long they are
pub length-before : (es : List Elem) (n : ℕ) → n < length es → length (take n es) ≡ n
length-before es n l = length-take-le n es (omega arith)

-- one element is as long as that
pub length-one : (es : List Elem) (n : ℕ) → n < length es → length (take (n + 1 - n) (drop n es)) ≡ 1
length-one es n l = let e : length (take (n + 1 - n) (drop n es)) ≡ n + 1 - n = length-part es n (n + 1) (omega arith) (omega arith) in omega arith

-- how many come behind an element
pub length-behind : (es : List Elem) (n : ℕ) → n < length es → length (take (length es - (n + 1)) (drop (n + 1) es)) ≡ length es - (n + 1)
length-behind es n l = length-part es (n + 1) (length es) (omega arith) (omega arith)

-- ---- woven nodes

module _ (s : List NodeKind) (k : ℕ) (thin : IsThin s k Woven) where
  pub thin-leaf : (a b : ArenaState) (i : ℕ) (es : List Elem) → length es ≡ 1 → node_at a i ≡ None
      → ChangesNode a b i (Some (record { kind = k; run = es; links = [] })) → Weaves s k 0 (2 * length es + 3) a b es i
  thin-leaf a b i es one free ch =
      let e = thin.shape_is in
      record {
        run = es;
        links = done;
        adds = adds-node a a b i k es done (adds-done a) free ch;
        some = omega arith;
        few = let hi : 1 ≤ (kind_at s k).hi = thin.hi in omega arith;
        half = λ h. absurd (omega (arith, h));
        hangs = refl;
        level = (subst (λ sh. IsLevelAt s sh done) (sym e) tt, tt, tt);
        high = refl;
        walk_is = append-nil (joined (parts (shape_at s k) es [])) ∙ ap (λ sh. joined (parts sh es [])) e ∙ joined-alone es;
      }

  -- a node above two children
  pub thin-node : (a m n b : ArenaState) (h r1 r2 room i j l : ℕ) (xs ys es : List Elem) (run : List Elem) → length run ≡ 1 → xs ++ (run ++ ys) ≡ es
      → 2 * (length es + 1) < room → Weaves s k h r1 a m xs j → Weaves s k h r2 m n ys l → node_at n i ≡ None
      → ChangesNode n b i (Some (record { kind = k; run = run; links = Some j ∷ Some l ∷ [] })) → Weaves s k (suc h) room a b es i
  thin-node a m n b h r1 r2 room i j l xs ys es [] one whole_is wide c d free ch = absurd (omega arith)
  thin-node a m n b h r1 r2 room i j l xs ys es (x ∷ y ∷ run) one whole_is wide c d free ch = absurd (omega arith)
  thin-node a m n b h r1 r2 room i j l xs ys es (x ∷ []) one whole_is wide c d free ch =
      let e = thin.shape_is in
      let row = node j k c.run c.links (node l k d.run d.links done) in
      let first : height s c.links ≡ h = c.high in
      let second : height s d.links ≡ h = d.high in
      let same : 1 + height s d.links ≡ 1 + height s c.links = omega arith in
      let w = joined (parts (shape_at s k) c.run (walks s c.links)) in
      let v = joined (parts (shape_at s k) d.run (walks s d.links)) in
      let walked : w ≡ xs = sym (append-nil w) ∙ c.walk_is in
      let lo : (kind_at s k).lo ≡ 1 = thin.lo in
      let hi : 1 ≤ (kind_at s k).hi = thin.hi in
      let some1 : 1 ≤ length c.run = c.some in
      let some2 : 1 ≤ length d.run = d.some in
      record {
        run = x ∷ [];
        links = row;
        adds = adds-node a n b i k (x ∷ []) row (adds-behind a m n (node j k c.run c.links done) (node l k d.run d.links done) c.adds d.adds) free ch;
        some = omega arith;
        few = omega arith;
        half = λ q. absurd (omega (arith, q, wide));
        hangs = (
          refl,
          omega arith,
          c.few,
          subst (λ sh. Hang s (places s sh k c.run c.links) c.links) (sym e) c.hangs,
          (refl, omega arith, d.few, subst (λ sh. Hang s (places s sh k d.run d.links) d.links) (sym e) d.hangs, refl),
        );
        level = (
          subst (λ sh. IsLevelAt s sh row) (sym e) (refl, (same, tt)),
          (c.level.0, c.level.1, (d.level.0, d.level.1, tt)),
          tt,
        );
        high = omega arith;
        walk_is = append-nil (joined (parts (shape_at s k) (x ∷ []) (w ∷ v ∷ [])))
            ∙ ap (λ sh. joined (parts sh (x ∷ []) (w ∷ v ∷ []))) e
            ∙ ap (λ u. u ++ x ∷ (v ++ [])) walked ∙ ap (λ u. xs ++ x ∷ u) d.walk_is ∙ whole_is;
      }

  -- a woven structure
  pub grows-woven : (a b : ArenaState) (n room i : ℕ) (es : List Elem) (deep : ℕ) → Weaves s k n room a b es i → Grows s k a b es deep (Some i)
  grows-woven a b n room i es deep c =
      let e = thin.shape_is in
      record {
        tree = node i k c.run c.links done;
        root_is = refl;
        adds = c.adds;
        hangs = (
          refl,
          subst (λ sh. least_of (kind_at s k) sh ≤ length c.run) (sym e) c.some,
          c.few,
          subst (λ sh. Hang s (places s sh k c.run c.links) c.links) (sym e) c.hangs,
          refl,
        );
        level = c.level;
        walk_is = c.walk_is;
        low =
            let z : max 0 0 ≡ 0 = omega arith in
            let none : spine s (node i k c.run c.links done) ≡ 0 = ap (λ sh. max (spine_by sh (spine s c.links)) 0) e ∙ z in
            omega (arith, none);
      }

-- half of what a woven structure has besides one element
pub half-size : (levels : ℕ) → levels ≢ 0 → thin_size levels ≡ thin_size (levels - 1) + 1 + thin_size (levels - 1)
half-size zero z = absurd (z refl)
half-size (suc levels) z =
    let e : levels ≡ suc levels - 1 = omega arith in
    subst (λ v. thin_size (suc levels) ≡ thin_size v + 1 + thin_size v) e refl

-- ---- the whole

-- what grew can be walked
pub grows-walked : (schema : Schema) (a b : ArenaState) (es : List Elem) (deep : ℕ) (root : Option ℕ) (st : Structure)
    → shape_at (kinds_of schema) (root_of schema) ≢ Flat → IsRising es → deep ≤ MOST_SPINE → st.top ≡ top_at root → st.len ≡ length es
    → st.spine ≡ MOST_SPINE → Grows (kinds_of schema) (root_of schema) a b es deep root → CanBeWalked schema b st
grows-walked schema a b es deep root st linked rising low top len spine_is g = by g.tree g.root_is g.hangs g.level g.walk_is g.adds g.low
  where
    s : List NodeKind
    s = kinds_of schema

    k : ℕ
    k = root_of schema

    first : (x y : Option ℕ) (xs ys : List (Option ℕ)) → x ∷ xs ≡ y ∷ ys → y ≡ x
    first x y xs ys e = cc

    by : (t : Trees) → roots t ≡ root ∷ [] → Hang s (whole s k ∷ []) t → IsLevel s t → walk s t ≡ es → Adds a b t → spine s t ≤ deep
        → CanBeWalked schema b st
    by done e h v w ad sp = cc
    by (absent rest) e h v w ad sp =
        let none : rest ≡ done = hang-none s rest h.1 in
        let nothing : [] ≡ es = ap (walk s) (sym none) ∙ w in
        let counted : 0 ≡ st.len = ap length nothing ∙ sym len in
        let at_none : root ≡ None = first None root (roots rest) [] e in
        ∣ (
          empty,
          record {
            stands = record { top = top ∙ ap top_at at_none; nodes = tt; once = tt; run = tt; counted = counted };
            conforms = record { tree = tt; spine_kept = omega arith; spine_low = omega (arith, spine_is) };
          },
        ) ∣₁
    by (node i m run ls rest) e h v w ad sp = whole-node rest (hang-none s rest h.4) e h v w ad sp
      where
        whole-node : (u : Trees) → u ≡ done → Some i ∷ roots u ≡ root ∷ [] → Hang s (whole s k ∷ []) (node i m run ls u) → IsLevel s (node i m run ls u)
            → walk s (node i m run ls u) ≡ es → Adds a b (node i m run ls u) → spine s (node i m run ls u) ≤ deep → CanBeWalked schema b st
        whole-node done none e h v w ad sp =
            let at_some : root ≡ Some i = first (Some i) root [] [] e in
            ∣ (
              rooted i m run ls,
              record {
                stands = record { top = top ∙ ap top_at at_some; nodes = ad.stands; once = ad.once; run = tt; counted = ap length w ∙ sym len };
                conforms = record {
                  tree = (linked, record { hangs = h; level = v; low = omega (arith, sp, low); rising = subst IsRising (sym w) rising });
                  spine_kept = omega (arith, sp, low, spine_is);
                  spine_low = omega (arith, spine_is);
                };
              },
            ) ∣₁
        whole-node (absent u) none e h v w ad sp = cc
        whole-node (node j n r l u) none e h v w ad sp = cc
