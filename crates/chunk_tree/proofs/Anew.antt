-- A structure whose nodes are all of one kind with two links, before and after its nodes are linked anew.
use Rattle.std.proofs.Common.{◌≡◌, ◌≢◌, ◌≤◌, ◌<◌, ◌+◌, ◌-◌, ◌*◌, ◌^◌, ℕ, max, List, [], ◌∷◌, ◌++◌, map, length, Option, Some, None, refl, ap, ◌∙◌, sym, subst, arith, append_assoc, append-nil, length-append, slice_index_or}
use Rattle.std.proofs.lemmas.List.{length-map}
use Rattle.node_arena.specs.declared.elements.Elem.{Elem}
use Rattle.node_arena.specs.declared.elements.Structure.{Structure}
use Rattle.node_arena.specs.declared.elements.TheConstants.{MOST_SPINE}
use Rattle.node_arena.specs.declared.kinds.NodeKind.{NodeKind}
use Rattle.node_arena.specs.declared.kinds.Shape.TheVariants.{Flat, Ends}
use Rattle.node_arena.specs.Arenas.{ArenaState}
use Rattle.node_arena.specs.Conforming.{Hang, Place, whole, places, least_of, IsLevel, spine, spine_by, IsRising, Conform}
use Rattle.node_arena.specs.Kinds.{kind_at, shape_at}
use Rattle.node_arena.specs.Rules.{AreSound, HasSoundLinks}
use Rattle.node_arena.specs.Structures.{Tree, empty, rooted, flat, links_of, top_of, walk_of, HasRun, ConformTree, AvoidsRun, IsStructure}
use Rattle.node_arena.specs.Trees.{Trees, done, absent, node, roots, Stands, Avoids, IsReachedOnce}
use Rattle.node_arena.specs.Walks.{item, link, parts, between, joined, walk, walks}
use Rattle.chunk_tree.specs.Balancing.{IsRebalanced}
use Rattle.chunk_tree.specs.Relinking.{Cell, Without, numbers_of, joined_rows, around, rows, cells, IsNarrow, IsAt, IsLaid, IsLinked, root_at, top_at}
use Rattle.chunk_tree.proofs.Cells.{AllStand-cells, AreDistinct-cells, Without-cells, Avoids-cells}
use Rattle.node_arena.proofs.WalksLemmas.{joined-items, joined-links}
use Rattle.chunk_tree.proofs.Listing.{HasNode-avoided}
use Rattle.chunk_tree.proofs.Pairs.{One, level-ends, no-more}

-- ---- trees of one kind

-- each node is of this kind, has a run of 1 to so many elements, and two links
abbrev pub AreOf : ℕ → ℕ → Trees → Type 0
AreOf k hi done = Unit {0}
AreOf k hi (absent t) = AreOf k hi t
AreOf k hi (node i m run ls t) = (m ≡ k) × ((1 ≤ length run) × (length run ≤ hi)) × (length (roots ls) ≡ 2) × AreOf k hi ls × AreOf k hi t

-- the same of cells, which have no links
abbrev AreCellsOf : ℕ → ℕ → List Cell → Type 0
AreCellsOf k hi [] = Unit {0}
AreCellsOf k hi (c ∷ cs) = ((c.kind ≡ k) × (1 ≤ length c.run) × (length c.run ≤ hi)) × AreCellsOf k hi cs

-- places for structures of this kind
abbrev ArePlain : List NodeKind → ℕ → List Place → Type 0
ArePlain s k [] = Unit {0}
ArePlain s k (p ∷ ps) = ((p.kind ≡ k) × (p.least ≡ 1) × (p.must ≡ (whole s k).must)) × ArePlain s k ps

hang-length : (s : List NodeKind) (ps : List Place) (t : Trees) → Hang s ps t → length (roots t) ≡ length ps
hang-length s ps done h = sym (ap length h)
hang-length s [] (absent t) h = absurd h
hang-length s (p ∷ ps) (absent t) h = let ih = hang-length s ps t h.1 in omega arith
hang-length s [] (node i m run ls t) h = absurd h
hang-length s (p ∷ ps) (node i m run ls t) h = let ih = hang-length s ps t h.4 in omega arith

-- ---- cells

cells-join : (k hi : ℕ) (xs ys : List Cell) → AreCellsOf k hi xs → AreCellsOf k hi ys → AreCellsOf k hi (xs ++ ys)
cells-join k hi [] ys h g = g
cells-join k hi (x ∷ xs) ys h g = (h.0, cells-join k hi xs ys h.1 g)

cells-parts : (k hi : ℕ) (xs ys : List Cell) → AreCellsOf k hi (xs ++ ys) → AreCellsOf k hi xs × AreCellsOf k hi ys
cells-parts k hi [] ys h = (tt, h)
cells-parts k hi (x ∷ xs) ys h = let r = cells-parts k hi xs ys h.1 in ((h.0, r.0), r.1)

cells-around : (k hi : ℕ) (c : Cell) (ws : List (List Cell)) → (c.kind ≡ k) × (1 ≤ length c.run) × (length c.run ≤ hi) → AreCellsOf k hi (joined_rows ws)
    → AreCellsOf k hi (around c ws)
cells-around k hi c [] h g = (h, tt)
cells-around k hi c (w ∷ ws) h g = let p = cells-parts k hi w (joined_rows ws) g in cells-join k hi w (c ∷ joined_rows ws) p.0 (h, p.1)

around-cells : (k hi : ℕ) (c : Cell) (ws : List (List Cell)) → AreCellsOf k hi (around c ws)
    → ((c.kind ≡ k) × (1 ≤ length c.run) × (length c.run ≤ hi)) × AreCellsOf k hi (joined_rows ws)
around-cells k hi c [] h = (h.0, tt)
around-cells k hi c (w ∷ ws) h =
    let p = cells-parts k hi w (c ∷ joined_rows ws) h in
    (p.1.0, cells-join k hi w (joined_rows ws) p.0 p.1.1)

cells-of : (k hi : ℕ) (t : Trees) → AreOf k hi t → AreCellsOf k hi (cells t)
cells-of k hi done h = tt
cells-of k hi (absent t) h = cells-of k hi t h
cells-of k hi (node i m run ls t) h =
    cells-join k hi (around (record { at = i; kind = m; run = run }) (rows ls)) (cells t)
    (cells-around k hi (record { at = i; kind = m; run = run }) (rows ls) (h.0, h.1.0, h.1.1) (cells-of k hi ls h.3)) (cells-of k hi t h.4)

of-cells : (k hi levels : ℕ) (t : Trees) → IsNarrow levels t → AreCellsOf k hi (cells t) → AreOf k hi t
of-cells k hi levels done n h = tt
of-cells k hi levels (absent t) n h = of-cells k hi levels t n h
of-cells k hi levels (node i m run ls t) n h =
    let p = cells-parts k hi (around (record { at = i; kind = m; run = run }) (rows ls)) (cells t) h in
    let q = around-cells k hi (record { at = i; kind = m; run = run }) (rows ls) p.0 in
    (q.0.0, (q.0.1, q.0.2), n.1, of-cells k hi (levels - 1) ls n.2 q.1, of-cells k hi levels t n.3 p.1)

-- the elements of the cells
abbrev pub runs_of : List Cell → List Elem
runs_of [] = []
runs_of (c ∷ cs) = c.run ++ runs_of cs

few-cells : (k hi : ℕ) (cs : List Cell) → AreCellsOf k hi cs → length cs ≤ length (runs_of cs)
few-cells k hi [] h = omega arith
few-cells k hi (c ∷ cs) h =
    let ih : length cs ≤ length (runs_of cs) = few-cells k hi cs h.1 in
    let e : length (c.run ++ runs_of cs) ≡ length c.run + length (runs_of cs) = length-append c.run (runs_of cs) in
    omega (arith, h.0.1)

runs-append : (xs ys : List Cell) → runs_of (xs ++ ys) ≡ runs_of xs ++ runs_of ys
runs-append [] ys = refl
runs-append (x ∷ xs) ys = ap (λ w. x.run ++ w) (runs-append xs ys) ∙ sym (append_assoc x.run (runs_of xs) (runs_of ys))

flat-runs : (ws : List (List Cell)) → runs_of (joined_rows ws) ≡ joined (map link (map runs_of ws))
flat-runs [] = refl
flat-runs (w ∷ ws) = runs-append w (joined_rows ws) ∙ ap (λ v. runs_of w ++ v) (flat-runs ws)

items-alone : (run : List Elem) → joined (map item run) ≡ run
items-alone [] = refl
items-alone (x ∷ xs) = ap (λ w. x ∷ w) (items-alone xs)

around-runs : (c : Cell) (ws : List (List Cell)) → joined (between c.run (map runs_of ws)) ≡ runs_of (around c ws)
around-runs c [] = items-alone c.run ∙ sym (append-nil c.run)
around-runs c (w ∷ ws) =
    ap (λ v. runs_of w ++ v) (joined-items c.run (map link (map runs_of ws)) ∙ ap (λ v. c.run ++ v) (sym (flat-runs ws)))
    ∙ sym (runs-append w (c ∷ joined_rows ws))

module _ (s : List NodeKind) (k : ℕ) (shape : shape_at s k ≡ Ends k k) (lo : (kind_at s k).lo ≡ 1) where
  least-one : (whole s k).least ≡ 1
  least-one = subst (λ sh. least_of (kind_at s k) sh ≡ 1) (sym shape) lo

  of-hang : (ps : List Place) (t : Trees) → ArePlain s k ps → Hang s ps t → AreOf k (kind_at s k).hi t
  of-hang ps done p h = tt
  of-hang [] (absent t) p h = absurd h
  of-hang (q ∷ ps) (absent t) p h = of-hang ps t p.1 h.1
  of-hang [] (node i m run ls t) p h = absurd h
  of-hang (q ∷ ps) (node i m run ls t) p h =
      let e : m ≡ k = h.0 ∙ p.0.0 in
      let high : length run ≤ (kind_at s k).hi = subst (λ n. length run ≤ (kind_at s n).hi) e h.2 in
      let low : 1 ≤ length run = subst (λ n. n ≤ length run) p.0.1 h.1 in
      let links : Hang s (whole s k ∷ whole s k ∷ []) ls = subst (λ sh. Hang s (places s sh m run ls) ls) (ap (shape_at s) e ∙ shape) h.3 in (
        e,
        (low, high),
        hang-length s (whole s k ∷ whole s k ∷ []) ls links,
        of-hang (whole s k ∷ whole s k ∷ []) ls ((refl, least-one, refl), ((refl, least-one, refl), tt)) links,
        of-hang ps t p.1 h.4,
      )

  hang-of : (ps : List Place) (t : Trees) → ArePlain s k ps → length (roots t) ≡ length ps → AreOf k (kind_at s k).hi t → Hang s ps t
  hang-of [] done p e h = refl
  hang-of (q ∷ ps) done p e h = absurd (omega arith)
  hang-of [] (absent t) p e h = absurd (omega arith)
  hang-of (q ∷ ps) (absent t) p e h = (p.0.2, hang-of ps t p.1 (omega arith) h)
  hang-of [] (node i m run ls t) p e h = absurd (omega arith)
  hang-of (q ∷ ps) (node i m run ls t) p e h = (
    h.0 ∙ sym p.0.0,
    subst (λ n. n ≤ length run) (sym p.0.1) h.1.0,
    subst (λ n. length run ≤ (kind_at s n).hi) (sym h.0) h.1.1,
    subst (λ sh. Hang s (places s sh m run ls) ls) (sym (ap (shape_at s) h.0 ∙ shape))
        (hang-of (whole s k ∷ whole s k ∷ []) ls ((refl, least-one, refl), ((refl, least-one, refl), tt)) h.2 h.3),
    hang-of ps t p.1 (omega arith) h.4,
  )

  level-of : (t : Trees) → AreOf k (kind_at s k).hi t → IsLevel s t
  level-of done h = tt
  level-of (absent t) h = level-of t h
  level-of (node i m run ls t) h = (level-ends s m k k ls (ap (shape_at s) h.0 ∙ shape), level-of ls h.3, level-of t h.4)

  spine-node : (m : ℕ) (n r : ℕ) → m ≡ k → max (spine_by (shape_at s m) n) r ≡ max (1 + n) r
  spine-node m n r e = ap (λ sh. max (spine_by sh n) r) (ap (shape_at s) e ∙ shape)

  narrow-of : (levels : ℕ) (t : Trees) → AreOf k (kind_at s k).hi t → spine s t ≤ levels → IsNarrow levels t
  narrow-of levels done h l = tt
  narrow-of levels (absent t) h l = narrow-of levels t h l
  narrow-of levels (node i m run ls t) h l =
      let e = spine-node m (spine s ls) (spine s t) h.0 in
      (omega arith, h.2, narrow-of (levels - 1) ls h.3 (omega arith), narrow-of levels t h.4 (omega arith))

  spine-of : (d : ℕ) (t : Trees) → AreOf k (kind_at s k).hi t → IsNarrow d t → spine s t ≤ d
  spine-of d done h n = omega arith
  spine-of d (absent t) h n = spine-of d t h n
  spine-of d (node i m run ls t) h n =
      let e = spine-node m (spine s ls) (spine s t) h.0 in
      let a : spine s ls ≤ d - 1 = spine-of (d - 1) ls h.3 n.2 in
      let b : spine s t ≤ d = spine-of d t h.4 n.3 in
      omega (arith, n.0)

  walks-rows : (t : Trees) → AreOf k (kind_at s k).hi t → walks s t ≡ map runs_of (rows t)
  walks-rows done h = refl
  walks-rows (absent t) h = ap (λ v. [] ∷ v) (walks-rows t h)
  walks-rows (node i m run ls t) h =
      let c : Cell = record { at = i; kind = m; run = run } in
      ap (λ v. joined (parts (shape_at s m) run (walks s ls)) ∷ v) (walks-rows t h.4)
      ∙ ap (λ v. v ∷ map runs_of (rows t))
      (ap (λ sh. joined (parts sh run (walks s ls))) (ap (shape_at s) h.0 ∙ shape) ∙ ap (λ v. joined (between run v)) (walks-rows ls h.3)
      ∙ around-runs c (rows ls))

  walk-cells : (t : Trees) → AreOf k (kind_at s k).hi t → walk s t ≡ runs_of (cells t)
  walk-cells t h = sym (joined-links s t) ∙ ap (λ v. joined (map link v)) (walks-rows t h) ∙ sym (flat-runs (rows t))

-- ---- the structure's tree

-- the tree at a link
abbrev tree_of : Trees → Tree
tree_of done = empty
tree_of (absent rest) = empty
tree_of (node i k run ls rest) = rooted i k run ls

links-tree : (w : Trees) → One w → links_of (tree_of w) ≡ w
links-tree done o = absurd (omega arith)
links-tree (absent w) o = ap absent (sym (no-more w (omega arith)))
links-tree (node i k run ls w) o = ap (node i k run ls) (sym (no-more w (omega arith)))

walk-tree : (s : List NodeKind) (w : Trees) → One w → walk_of s (tree_of w) ≡ walk s w
walk-tree s done o = absurd (omega arith)
walk-tree s (absent w) o = ap (walk s) (sym (no-more w (omega arith)))
walk-tree s (node i k run ls w) o = ap (λ v. walk s (node i k run ls v)) (sym (no-more w (omega arith)))

top-tree : (w : Trees) (top : Option ℕ) → roots w ≡ top ∷ [] → top_at top ≡ top_of (tree_of w)
top-tree done top e = cc
top-tree (absent w) top e = let same : None ≡ top = cc (e) in ap top_at (sym same)
top-tree (node i k run ls w) top e = let same : Some i ≡ top = cc (e) in ap top_at (sym same)

run-tree : (b : ArenaState) (w : Trees) → HasRun b (tree_of w)
run-tree b done = tt
run-tree b (absent w) = tt
run-tree b (node i k run ls w) = tt

no-run : (i : ℕ) (w : Trees) → AvoidsRun i (tree_of w)
no-run i done = tt
no-run i (absent w) = tt
no-run i (node j k run ls w) = tt

conform-tree : (s : List NodeKind) (k : ℕ) (w : Trees) → shape_at s k ≢ Flat → One w → Conform s k w → ConformTree s k (tree_of w)
conform-tree s k done f o c = tt
conform-tree s k (absent w) f o c = tt
conform-tree s k (node i m run ls w) f o c = (f, subst (λ v. Conform s k (node i m run ls v)) (no-more w (omega arith)) c)

walk-links : (s : List NodeKind) (k : ℕ) (t : Tree) → ConformTree s k t → shape_at s k ≢ Flat → walk_of s t ≡ walk s (links_of t)
walk-links s k empty h f = refl
walk-links s k (rooted i m run ls) h f = refl
walk-links s k (flat i run) h f = absurd (f h.0)

-- a structure of nodes is one tree
pub roots-links : (s : List NodeKind) (k : ℕ) (t : Tree) → ConformTree s k t → shape_at s k ≢ Flat → roots (links_of t) ≡ root_at (top_of t) ∷ []
roots-links s k empty h f = refl
roots-links s k (rooted i m run ls) h f = refl
roots-links s k (flat i run) h f = absurd (f h.0)

conform-links : (s : List NodeKind) (k : ℕ) (t : Tree) → ConformTree s k t → shape_at s k ≢ Flat
    → Hang s (whole s k ∷ []) (links_of t) × IsRising (walk s (links_of t))
conform-links s k empty h f = ((refl, refl), tt)
conform-links s k (rooted i m run ls) h f = (h.1.hangs, h.1.rising)
conform-links s k (flat i run) h f = absurd (f h.0)

module _ (s : List NodeKind) (k : ℕ) (a : ArenaState) (st : Structure) (t : Tree) (sound : AreSound s) (shape : shape_at s k ≡ Ends k k)
    (h : IsStructure s k a st t) where
  not-flat : shape_at s k ≢ Flat
  not-flat e = let z : Ends k k ≡ Flat = sym shape ∙ e in cc

  lo-is : (kind_at s k).lo ≡ 1
  lo-is = let rule : HasSoundLinks s (kind_at s k) (Ends k k) = subst (HasSoundLinks s (kind_at s k)) shape (sound.links k) in rule.0

  plain : ArePlain s k (whole s k ∷ [])
  plain = ((refl, least-one s k shape lo-is, refl), tt)

  kept : AreOf k (kind_at s k).hi (links_of t)
  kept = of-hang s k shape lo-is (whole s k ∷ []) (links_of t) plain (conform-links s k t h.conforms.tree not-flat).0

  -- what the root leads to
  pub at-root : IsAt a (root_at st.top) MOST_SPINE (links_of t)
  at-root =
      let low : spine s (links_of t) ≤ MOST_SPINE = (let x = h.conforms.spine_kept in let y = h.conforms.spine_low in omega arith) in
      record {
        root = roots-links s k t h.conforms.tree not-flat ∙ ap (λ v. root_at v ∷ []) (sym h.stands.top);
        stands = h.stands.nodes;
        narrow = narrow-of s k shape lo-is MOST_SPINE (links_of t) kept low;
      }

  -- its cells are laid out under their numbers
  pub laid : (ids : List ℕ) → ids ≡ numbers_of (cells (links_of t)) → IsLaid a ids (cells (links_of t))
  laid ids e = record {
    ids_are = e;
    stand = AllStand-cells a (links_of t) h.stands.nodes;
    distinct = AreDistinct-cells (links_of t) h.stands.once;
  }

  cells-low : length (cells (links_of t)) ≤ st.len
  cells-low =
      let f = few-cells k (kind_at s k).hi (cells (links_of t)) (cells-of k (kind_at s k).hi (links_of t) kept) in
      let e : length (runs_of (cells (links_of t))) ≡ st.len =
      ap length (sym (walk-cells s k shape lo-is (links_of t) kept) ∙ sym (walk-links s k t h.conforms.tree not-flat)) ∙ h.stands.counted in
      omega arith

  -- there are no more numbers than elements
  pub ids-low : (ids : List ℕ) → ids ≡ numbers_of (cells (links_of t)) → length ids ≤ st.len
  ids-low ids e =
      let n : length ids ≡ length (cells (links_of t)) = ap length e ∙ length-map (cells (links_of t)) (λ c. c.at) in
      let l = cells-low in
      omega arith

  -- the structure that is linked anew
  pub anew : (b : ArenaState) (top : Option ℕ) (d : ℕ) → b.runs ≡ a.runs → st.len < 2 ^ d → 2 ^ d ≤ 2 * st.len + 1 → d ≤ 32
      → IsLinked a b (cells (links_of t)) top
      → IsRebalanced s k a b st t (record { top = top_at top; len = st.len; spine = d })
  anew b top d runs above least few l =
      let w = l.tree in
      let one : One w = ap length l.root in
      let low = cells-low in
      let narrow : IsNarrow d w = l.narrow d (omega arith) in
      let are : AreOf k (kind_at s k).hi w = of-cells k (kind_at s k).hi d w narrow
      (subst (AreCellsOf k (kind_at s k).hi) (sym l.cells_are) (cells-of k (kind_at s k).hi (links_of t) kept)) in
      let walks : walk s w ≡ walk s (links_of t) =
      walk-cells s k shape lo-is w are ∙ ap runs_of l.cells_are ∙ sym (walk-cells s k shape lo-is (links_of t) kept) in
      let walk_is : walk_of s (tree_of w) ≡ walk_of s t = walk-tree s w one ∙ walks ∙ sym (walk-links s k t h.conforms.tree not-flat) in
      let sp : spine s w ≤ d = spine-of s k shape lo-is d w are narrow in
      let c : Conform s k w = record {
        hangs = hang-of s k shape lo-is (whole s k ∷ []) w plain one are;
        level = level-of s k shape lo-is w are;
        low = omega arith;
        rising = subst IsRising (sym walks) (conform-links s k t h.conforms.tree not-flat).1;
      } in
      record {
        tree = tree_of w;
        holds = record {
          stands = record {
            top = top-tree w top l.root;
            nodes = subst (Stands b) (sym (links-tree w one)) l.stands;
            once = subst IsReachedOnce (sym (links-tree w one)) l.once;
            run = run-tree b w;
            counted = ap length walk_is ∙ h.stands.counted;
          };
          conforms = record {
            tree = conform-tree s k w not-flat one c;
            spine_kept = subst (λ v. spine s v ≤ d) (sym (links-tree w one)) sp;
            spine_low = omega arith;
          };
        };
        walk_is = walk_is;
        len_is = refl;
        spine_low = least;
        spine_few = few;
        keeps = record {
          nodes = λ j g v. l.keeps j (Without-cells j (links_of t) v);
          runs = λ j g v. ap (λ r. slice_index_or r.slots j None) runs;
        };
        news = record {
          nodes = λ j g v. subst (Avoids j) (sym (links-tree w one)) (Avoids-cells j w (subst (Without j) (sym l.cells_are) (Without-cells j (links_of t) v)));
          runs = λ j g v. no-run j w;
        };
        nodes = record {
          gone = λ j g v.
              let away : Avoids j w = subst (Avoids j) (links-tree w one) v in
              absurd (HasNode-avoided j (links_of t) g (Avoids-cells j (links_of t) (subst (Without j) l.cells_are (Without-cells j w away))));
          others = λ j v away. l.keeps j (Without-cells j (links_of t) v);
        };
      }
