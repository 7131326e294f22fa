-- Nodes of the kinds with one link or two, made above what has been built.
use Rattle.std.proofs.Common.{◌≡◌, ◌≤◌, ◌<◌, ◌+◌, ◌-◌, ◌*◌, ◌^◌, ℕ, zero, suc, max, List, [], ◌∷◌, ◌++◌, map, length, take, drop, Option, Some, None, refl, ap, ◌∙◌, sym, subst, arith, append-nil, length-append}
use Rattle.std.proofs.Math.Nat.{pow-suc, pow-zero}
use Rattle.std.proofs.lemmas.List.{take-append-drop, length-take-le}
use Rattle.node_arena.specs.declared.elements.Elem.{Elem}
use Rattle.node_arena.specs.declared.kinds.NodeKind.{NodeKind}
use Rattle.node_arena.specs.declared.kinds.Shape.TheVariants.{Post, Ends}
use Rattle.node_arena.specs.Arenas.{ArenaState, node_at, ChangesNode}
use Rattle.node_arena.specs.Kinds.{kind_at, shape_at}
use Rattle.node_arena.specs.Trees.{done, absent, node, roots, stored}
use Rattle.node_arena.specs.Walks.{link, parts, joined, walk, walks}
use Rattle.node_arena.specs.Conforming.{Hang, whole, places, least_of, IsLevelAt, spine, spine_by}
use Rattle.node_arena.proofs.RowsLemmas.{beside, roots-beside, walks-beside}
use Rattle.bulk_build.specs.Layouts.{Builds}
use Rattle.bulk_build.proofs.AddsLemmas.{adds-absent, adds-behind, adds-node}
use Rattle.bulk_build.proofs.RangesLemmas.{drop-parted, length-part, take-rest}
use Rattle.bulk_build.proofs.RowsLemmas.{hang-beside, level-beside, spine-beside, joined-items, joined-links, walks-one}

-- nothing is built of no elements
pub builds-none : (s : List NodeKind) (k : ℕ) (a : ArenaState) (es : List Elem) → length es ≡ 0 → Builds s (whole s k) a a es None
builds-none s k a [] e = record {
  tree = absent done;
  root_is = refl;
  adds = adds-absent a;
  hangs = (refl, refl);
  level = tt;
  walk_is = refl;
  spine_low = λ d h. omega arith;
}
builds-none s k a (x ∷ es) e = absurd (omega arith)

module _ (s : List NodeKind) (k : ℕ) (a b : ArenaState) (i : ℕ) (run : List Elem) (lo : (kind_at s k).lo ≡ 1)
    (some : 1 ≤ length run) (few : length run ≤ (kind_at s k).hi) where
  -- a node above one link
  pub builds-post : (p : ℕ) (m : ArenaState) (es : List Elem) (next : Option ℕ) → shape_at s k ≡ Post p → Builds s (whole s p) a m es next
      → node_at m i ≡ None → ChangesNode m b i (Some (record { kind = k; run = run; links = next ∷ [] })) → Builds s (whole s k) a b (run ++ es) (Some i)
  builds-post p m es next e l free ch =
      let ch2 : ChangesNode m b i (Some (stored k run l.tree)) =
      subst (λ r. ChangesNode m b i (Some (record { kind = k; run = run; links = r }))) (sym l.root_is) ch in
      let one : walk s (node i k run l.tree done) ≡ run ++ walk s l.tree =
      append-nil (joined (parts (shape_at s k) run (walks s l.tree))) ∙ ap (λ sh. joined (parts sh run (walks s l.tree))) e
      ∙ joined-items run (map link (walks s l.tree)) ∙ ap (λ w. run ++ w) (joined-links s l.tree) in
      let same : spine s (node i k run l.tree done) ≡ spine s l.tree =
      let z : max (spine s l.tree) 0 ≡ spine s l.tree = omega arith in ap (λ sh. max (spine_by sh (spine s l.tree)) 0) e ∙ z in
      record {
        tree = node i k run l.tree done;
        root_is = refl;
        adds = adds-node a m b i k run l.tree l.adds free ch2;
        hangs = (
          refl,
          subst (λ sh. least_of (kind_at s k) sh ≤ length run) (sym e) (omega arith),
          few,
          subst (λ sh. Hang s (places s sh k run l.tree) l.tree) (sym e) l.hangs,
          refl,
        );
        level = (subst (λ sh. IsLevelAt s sh l.tree) (sym e) tt, l.level, tt);
        walk_is = one ∙ ap (λ w. run ++ w) l.walk_is;
        spine_low = λ d h.
            let n : length (run ++ es) ≡ length run + length es = length-append run es in
            let low : spine s l.tree ≤ d = l.spine_low d (omega arith) in
            omega arith;
      }

  -- a node between two links
  pub builds-ends : (p q : ℕ) (m n : ArenaState) (xs ys : List Elem) (pre post : Option ℕ) → shape_at s k ≡ Ends p q
      → 2 * length xs ≤ length xs + (length run + length ys) → 2 * length ys ≤ length xs + (length run + length ys)
      → Builds s (whole s p) a m xs pre → Builds s (whole s q) m n ys post
      → node_at n i ≡ None → ChangesNode n b i (Some (record { kind = k; run = run; links = pre ∷ post ∷ [] }))
      → Builds s (whole s k) a b (xs ++ (run ++ ys)) (Some i)
  builds-ends p q m n xs ys pre post e half1 half2 l u free ch =
      let row = beside l.tree u.tree in
      let rs : roots row ≡ pre ∷ post ∷ [] = roots-beside l.tree u.tree ∙ ap (λ w. w ++ roots u.tree) l.root_is ∙ ap (λ w. pre ∷ w) u.root_is in
      let ch2 : ChangesNode n b i (Some (stored k run row)) =
      subst (λ r. ChangesNode n b i (Some (record { kind = k; run = run; links = r }))) (sym rs) ch in
      let ws : walks s row ≡ walk s l.tree ∷ walks s u.tree =
      walks-beside s l.tree u.tree ∙ ap (λ w. w ++ walks s u.tree) (walks-one s l.tree pre l.root_is) in
      let one : walk s (node i k run row done) ≡ walk s l.tree ++ (run ++ walk s u.tree) =
      append-nil (joined (parts (shape_at s k) run (walks s row))) ∙ ap (λ sh. joined (parts sh run (walks s row))) e
      ∙ ap (λ w. joined (parts (Ends p q) run w)) ws
      ∙ ap (λ w. walk s l.tree ++ w) (joined-items run (map link (walks s u.tree)) ∙ ap (λ w. run ++ w) (joined-links s u.tree)) in
      let high : spine s (node i k run row done) ≡ 1 + spine s row =
      let z : max (1 + spine s row) 0 ≡ 1 + spine s row = omega arith in ap (λ sh. max (spine_by sh (spine s row)) 0) e ∙ z in
      record {
        tree = node i k run row done;
        root_is = refl;
        adds = adds-node a n b i k run row (adds-behind a m n l.tree u.tree l.adds u.adds) free ch2;
        hangs = (
          refl,
          subst (λ sh. least_of (kind_at s k) sh ≤ length run) (sym e) (omega arith),
          few,
          subst (λ sh. Hang s (places s sh k run row) row) (sym e) (hang-beside s (whole s p) (whole s q ∷ []) l.tree u.tree l.hangs u.hangs),
          refl,
        );
        level = (subst (λ sh. IsLevelAt s sh row) (sym e) tt, level-beside s l.tree u.tree l.level u.level, tt);
        walk_is = one ∙ ap (λ w. w ++ (run ++ walk s u.tree)) l.walk_is ∙ ap (λ w. xs ++ (run ++ w)) u.walk_is;
        spine_low = λ d h. low d h high;
      }
    where
      count : length (xs ++ (run ++ ys)) ≡ length xs + (length run + length ys)
      count = length-append xs (run ++ ys) ∙ ap (λ v. length xs + v) (length-append run ys)

      low : (d : ℕ) → length (xs ++ (run ++ ys)) < 2 ^ d → spine s (node i k run (beside l.tree u.tree) done) ≡ 1 + spine s (beside l.tree u.tree)
          → spine s (node i k run (beside l.tree u.tree) done) ≤ d
      low zero h high =
          let c : length (xs ++ (run ++ ys)) ≡ length xs + (length run + length ys) = count in
          let one : 2 ^ zero ≡ 1 = pow-zero 2 in
          absurd (omega arith)
      low (suc d) h high =
          let c : length (xs ++ (run ++ ys)) ≡ length xs + (length run + length ys) = count in
          let two : 2 ^ suc d ≡ 2 ^ d * 2 = pow-suc 2 d in
          let sl : spine s l.tree ≤ d = l.spine_low d (omega arith) in
          let su : spine s u.tree ≤ d = u.spine_low d (omega arith) in
          let both : spine s (beside l.tree u.tree) ≡ max (spine s l.tree) (spine s u.tree) = spine-beside s l.tree u.tree in
          omega arith

-- one node more at the front of a chain
pub chain-more : (s : List NodeKind) (k : ℕ) (a m b : ArenaState) (es : List Elem) (start left i : ℕ) (next : Option ℕ)
    → (kind_at s k).lo ≡ 1 → shape_at s k ≡ Post k → start < left → left ≤ length es → left ≤ start + (kind_at s k).hi
    → Builds s (whole s k) a m (drop left es) next → node_at m i ≡ None
    → ChangesNode m b i (Some (record { kind = k; run = take (left - start) (drop start es); links = next ∷ [] }))
    → Builds s (whole s k) a b (drop start es) (Some i)
chain-more s k a m b es start left i next lo e some short few l free ch =
    let n : length (take (left - start) (drop start es)) ≡ left - start = length-part es start left (omega arith) short in
    subst (λ w. Builds s (whole s k) a b w (Some i)) (sym (drop-parted es start left (omega arith)))
    (builds-post s k a b i (take (left - start) (drop start es)) lo (omega arith) (omega arith) k m (drop left es) next e l free ch)

-- a node of one kind at the front of a structure of another
pub head-more : (s : List NodeKind) (k p : ℕ) (a m b : ArenaState) (es : List Elem) (cut i : ℕ) (next : Option ℕ)
    → (kind_at s k).lo ≡ 1 → shape_at s k ≡ Post p → 1 ≤ cut → cut ≤ length es → cut ≤ (kind_at s k).hi
    → Builds s (whole s p) a m (take (length es - cut) (drop cut es)) next → node_at m i ≡ None
    → ChangesNode m b i (Some (record { kind = k; run = take cut es; links = next ∷ [] }))
    → Builds s (whole s k) a b es (Some i)
head-more s k p a m b es cut i next lo e some short few l free ch =
    let n : length (take cut es) ≡ cut = length-take-le cut es short in
    let rest = take (length es - cut) (drop cut es) in
    let whole_is : take cut es ++ rest ≡ es = ap (λ w. take cut es ++ w) (take-rest es cut) ∙ take-append-drop cut es in
    subst (λ w. Builds s (whole s k) a b w (Some i)) whole_is
    (builds-post s k a b i (take cut es) lo (omega arith) (omega arith) p m rest next e l free ch)

-- a node between two structures
pub middle-more : (s : List NodeKind) (k p q : ℕ) (a m n b : ArenaState) (es : List Elem) (lower upper i : ℕ) (pre post : Option ℕ)
    → (kind_at s k).lo ≡ 1 → shape_at s k ≡ Ends p q → lower < upper → upper ≤ length es → upper ≤ lower + (kind_at s k).hi
    → 2 * lower ≤ length es → 2 * (length es - upper) ≤ length es
    → Builds s (whole s p) a m (take lower es) pre → Builds s (whole s q) m n (take (length es - upper) (drop upper es)) post
    → node_at n i ≡ None
    → ChangesNode n b i (Some (record { kind = k; run = take (upper - lower) (drop lower es); links = pre ∷ post ∷ [] }))
    → Builds s (whole s k) a b es (Some i)
middle-more s k p q a m n b es lower upper i pre post lo e some short few half1 half2 l u free ch =
    let xs = take lower es in
    let run = take (upper - lower) (drop lower es) in
    let ys = take (length es - upper) (drop upper es) in
    let nx : length xs ≡ lower = length-take-le lower es (omega arith) in
    let nr : length run ≡ upper - lower = length-part es lower upper (omega arith) short in
    let ny : length ys ≡ length es - upper = length-part es upper (length es) short (omega arith) in
    let whole_is : xs ++ (run ++ ys) ≡ es =
    ap (λ w. xs ++ (run ++ w)) (take-rest es upper) ∙ ap (λ w. xs ++ w) (sym (drop-parted es lower upper (omega arith)))
    ∙ take-append-drop lower es in
    subst (λ w. Builds s (whole s k) a b w (Some i)) whole_is
    (builds-ends s k a b i run lo (omega arith) (omega arith) p q m n xs ys pre post e (omega arith) (omega arith) l u free ch)
