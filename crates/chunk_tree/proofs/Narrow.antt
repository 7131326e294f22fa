-- Trees whose nodes have two links.
use Rattle.std.proofs.Common.{◌≡◌, ◌≤◌, ◌-◌, ℕ, List, [], ◌∷◌, ◌++◌, length, get_or, Some, None, refl, ap, ◌∙◌, sym, subst, arith, append_assoc}
use Rattle.std.proofs.lemmas.List.{map-append}
use Rattle.node_arena.specs.declared.elements.Elem.{Elem}
use Rattle.node_arena.specs.Arenas.{ArenaState, node_at}
use Rattle.node_arena.specs.Trees.{Trees, done, absent, node, roots, stored, Stands}
use Rattle.node_arena.proofs.RowsLemmas.{beside-Stands}
use Rattle.chunk_tree.specs.Relinking.{Cell, numbers_of, cells, IsNarrow, IsAt}
use Rattle.chunk_tree.proofs.Cells.{cells-node}
use Rattle.chunk_tree.proofs.Opening.{one-root}
use Rattle.chunk_tree.proofs.Pairs.{One, head_of, tail_of, parted, no-more, roots-head, roots-tail}

-- nothing at a link
pub nothing-is : (a : ArenaState) (levels : ℕ) (t : Trees) → IsAt a None levels t → t ≡ absent done
nothing-is a levels done h = let e = h.root in cc
nothing-is a levels (absent t) h = let e : length (None ∷ roots t) ≡ 1 = ap length h.root in ap absent (no-more t (omega arith))
nothing-is a levels (node i k run ls t) h = let e = h.root in cc

two-ones : (ls : Trees) → length (roots ls) ≡ 2 → One (head_of ls) × One (tail_of ls)
two-ones done h = absurd (omega arith)
two-ones (absent v) h = (refl, omega arith)
two-ones (node i k run l v) h = (refl, omega arith)

narrow-parts : (levels : ℕ) (ls : Trees) → IsNarrow levels ls → IsNarrow levels (head_of ls) × IsNarrow levels (tail_of ls)
narrow-parts levels done h = (tt, tt)
narrow-parts levels (absent v) h = (tt, h)
narrow-parts levels (node i k run l v) h = ((h.0, h.1, h.2, tt), h.3)

-- a node at a link, and what is at its two links
pub record Root (a : ArenaState) (i levels : ℕ) (t : Trees) : Type 0 where
  pub kind : ℕ
  pub run : List Elem
  pub links : Trees
  pub is : t ≡ node i kind run links done
  pub there : node_at a i ≡ Some (stored kind run links)
  pub some : 1 ≤ levels
  pub pre : IsAt a (get_or (roots links) 0 None) (levels - 1) (head_of links)
  pub post : IsAt a (get_or (roots links) 1 None) (levels - 1) (tail_of links)

-- where a link is, there is a node
pub root-of : (a : ArenaState) (i levels : ℕ) (t : Trees) → IsAt a (Some i) levels t → Root a i levels t
root-of a i levels done h = let e = h.root in cc
root-of a i levels (absent t) h = let e = h.root in cc
root-of a i levels (node j k run ls t) h =
    let root = h.root in
    let same : j ≡ i = cc (root) in
    let len : length (Some j ∷ roots t) ≡ 1 = ap length root in
    let none : t ≡ done = no-more t (omega arith) in
    let ones = two-ones ls h.narrow.1 in
    let st = beside-Stands a (head_of ls) (tail_of ls) (subst (Stands a) (parted ls) h.stands.1) in
    let np = narrow-parts (levels - 1) ls h.narrow.2 in
    record {
      kind = k;
      run = run;
      links = ls;
      is = ap (λ n. node n k run ls t) same ∙ ap (node i k run ls) none;
      there = subst (λ n. node_at a n ≡ Some (stored k run ls)) same h.stands.0;
      some = h.narrow.0;
      pre = record { root = one-root (head_of ls) ones.0 ∙ ap (λ r. r ∷ []) (roots-head ls); stands = st.0; narrow = np.0 };
      post = record { root = one-root (tail_of ls) ones.1 ∙ ap (λ r. r ∷ []) (roots-tail ls); stands = st.1; narrow = np.1 };
    }

-- the numbers of one side, the root's, and those of the other side
pub gathered : (a : ArenaState) (i levels : ℕ) (t : Trees) (r : Root a i levels t) (ids0 ids1 ids2 ids3 : List ℕ)
    → ids1 ≡ ids0 ++ numbers_of (cells (head_of r.links))
    → ids2 ≡ ids1 ++ (i ∷ []) → ids3 ≡ ids2 ++ numbers_of (cells (tail_of r.links)) → ids3 ≡ ids0 ++ numbers_of (cells t)
gathered a i levels t r ids0 ids1 ids2 ids3 e1 e2 e3 =
    let u = numbers_of (cells (head_of r.links)) in
    let v = numbers_of (cells (tail_of r.links)) in
    let c : Cell = record { at = i; kind = r.kind; run = r.run } in
    let whole_is : numbers_of (cells t) ≡ u ++ (i ∷ v) =
    ap (λ w. numbers_of (cells w)) r.is ∙ ap numbers_of (cells-node i r.kind r.run r.links)
    ∙ map-append (λ (c : Cell). c.at) (cells (head_of r.links)) (c ∷ cells (tail_of r.links)) in
    e3 ∙ ap (λ w. w ++ v) (e2 ∙ ap (λ w. w ++ (i ∷ [])) e1)
    ∙ append_assoc (ids0 ++ u) (i ∷ []) v ∙ append_assoc ids0 u (i ∷ v) ∙ ap (λ w. ids0 ++ w) (sym whole_is)
