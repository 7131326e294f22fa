-- A row of cells cut at its middle, and linked.
use Rattle.std.proofs.Common.{◌≡◌, ◌≤◌, ◌<◌, ◌+◌, ◌-◌, ◌/◌, ◌^◌, ◌⊎◌, inl, inr, ℕ, zero, suc, List, [], ◌∷◌, ◌++◌, length, take, drop, get_or, Option, Some, None, IsSome, IfSome, refl, ap, ◌∙◌, sym, subst, arith, length-append}
use Rattle.std.proofs.lemmas.List.{take-map, drop-map, length-map}
use Rattle.node_arena.specs.Arenas.{ArenaState, node_at, ChangesNode}
use Rattle.node_arena.specs.Trees.{Trees, done, absent, node, roots, Stands, Avoids, IsApart}
use Rattle.node_arena.proofs.FramesLemmas.{IsApart-done, Stands-changed, Stands-outside}
use Rattle.node_arena.proofs.RowsLemmas.{beside, roots-beside, Stands-beside, Avoids-beside, IsReachedOnce-beside}
use Rattle.chunk_tree.specs.Relinking.{Cell, CellStands, AllStand, Without, AreDistinct, numbers_of, cells, IsNarrow, IsLaid, IsLinked}
use Rattle.chunk_tree.proofs.Cells.{Without-parts, AreDistinct-parts, AllStand-parts, AllStand-moved, AreDistinct-skip, clear-parts, either, IsApart-by, Without-cells, Avoids-cells, cells-node}
use Rattle.chunk_tree.proofs.Pairs.{One, head_of, tail_of, no-more}

-- ---- the middle

-- the cell at a place, between those before and those behind
pub record Cut (m : ℕ) (cs : List Cell) (d : ℕ) : Type 0 where
  pub mid : Cell
  pub is : cs ≡ take m cs ++ mid ∷ drop (suc m) cs
  pub at : get_or (numbers_of cs) m d ≡ mid.at
  pub low : length (take m cs) ≡ m
  pub high : length (drop (suc m) cs) + suc m ≡ length cs

cut : (m : ℕ) (cs : List Cell) (d : ℕ) → m < length cs → Cut m cs d
cut m [] d h = absurd (omega arith)
cut zero (c ∷ cs) d h = record { mid = c; is = refl; at = refl; low = refl; high = omega arith }
cut (suc m) (c ∷ cs) d h =
    let r = cut m cs d (omega arith) in
    record { mid = r.mid; is = ap (λ w. c ∷ w) r.is; at = r.at; low = ap suc r.low; high = let e = r.high in omega arith }

take-whole : (n : ℕ) (xs : List ℕ) → length xs ≤ n → take n xs ≡ xs
take-whole zero [] h = refl
take-whole zero (x ∷ xs) h = absurd (omega arith)
take-whole (suc n) [] h = refl
take-whole (suc n) (x ∷ xs) h = ap (λ w. x ∷ w) (take-whole n xs (omega arith))

-- so many are taken at most
pub take-short : (n : ℕ) (xs : List ℕ) → length (take n xs) ≤ n
take-short zero xs = omega arith
take-short (suc n) [] = omega arith
take-short (suc n) (x ∷ xs) = let ih : length (take n xs) ≤ n = take-short n xs in omega arith

-- the two halves of a row of cells, and the cell between them
pub record Halved (a : ArenaState) (ids : List ℕ) (cs : List Cell) (m d : ℕ) : Type 0 where
  pub xs : List Cell
  pub mid : Cell
  pub ys : List Cell
  pub is : cs ≡ xs ++ mid ∷ ys
  pub lower : IsLaid a (take m ids) xs
  pub upper : (b : ArenaState) → ((j : ℕ) → Without j xs → node_at b j ≡ node_at a j) → IsLaid b (take (length ids - (m + 1)) (drop (m + 1) ids)) ys
  pub root : get_or ids m d ≡ mid.at
  pub there : CellStands a mid
  pub clear_xs : Without mid.at xs
  pub clear_ys : Without mid.at ys
  pub distinct : AreDistinct (xs ++ mid ∷ ys)
  pub few1 : length ys ≤ length xs
  pub few2 : length xs ≤ length ys + 1
  pub low : length xs ≡ m
  pub all : length xs + length ys + 1 ≡ length ids

-- a row that isn't empty is halved
pub halved : (a : ArenaState) (ids : List ℕ) (cs : List Cell) (m d : ℕ) → m ≡ length ids / 2 → 0 < length ids → IsLaid a ids cs → Halved a ids cs m d
halved a ids cs m d half some l =
    let len : length ids ≡ length cs = ap length l.ids_are ∙ length-map cs (λ c. c.at) in
    let c = cut m cs d (omega arith) in
    let xs = take m cs in
    let ys = drop (suc m) cs in
    let dist : AreDistinct (xs ++ c.mid ∷ ys) = subst AreDistinct c.is l.distinct in
    let dp = AreDistinct-parts xs (c.mid ∷ ys) dist in
    let lp = AllStand-parts a xs (c.mid ∷ ys) (subst (AllStand a) c.is l.stand) in
    let cl = clear-parts xs (c.mid ∷ ys) dist in
    let low = c.low in
    let high = c.high in
    let one : suc m ≡ m + 1 = omega arith in
    let rest : drop (m + 1) ids ≡ numbers_of ys = ap (λ n. drop n ids) (sym one) ∙ ap (drop (suc m)) l.ids_are ∙ drop-map (λ c. c.at) (suc m) cs in
    let ylen : length (numbers_of ys) ≡ length ys = length-map ys (λ c. c.at) in
    let all : take (length ids - (m + 1)) (numbers_of ys) ≡ numbers_of ys = take-whole (length ids - (m + 1)) (numbers_of ys) (omega arith) in
    record {
      xs = xs;
      mid = c.mid;
      ys = ys;
      is = c.is;
      lower = record { ids_are = ap (take m) l.ids_are ∙ take-map (λ c. c.at) m cs; stand = lp.0; distinct = dp.0 };
      upper = λ b f. record { ids_are = ap (take (length ids - (m + 1))) rest ∙ all; stand = AllStand-moved a b xs ys f cl.1 lp.1.1; distinct = dp.1.1 };
      root = ap (λ v. get_or v m d) l.ids_are ∙ c.at;
      there = lp.1.0;
      clear_xs = cl.0;
      clear_ys = dp.1.0;
      distinct = dist;
      few1 = omega arith;
      few2 = omega arith;
      low = low;
      all = omega arith;
    }

-- ---- linked

double : (d : ℕ) → 2 ^ suc d ≡ 2 ^ d + 2 ^ d
double d = grind arith

-- no cells are an empty tree
pub linked-none : (a : ArenaState) → IsLinked a a [] None
linked-none a = record {
  tree = absent done;
  root = refl;
  stands = tt;
  once = tt;
  cells_are = refl;
  narrow = λ d h. tt;
  keeps = λ j h. refl;
}

head-beside : (t u : Trees) → One t → head_of (beside t u) ≡ t
head-beside done u o = absurd (omega arith)
head-beside (absent t) u o = ap absent (sym (no-more t (omega arith)))
head-beside (node i k run ls t) u o = ap (node i k run ls) (sym (no-more t (omega arith)))

tail-beside : (t u : Trees) → One t → tail_of (beside t u) ≡ u
tail-beside done u o = absurd (omega arith)
tail-beside (absent t) u o = ap (λ w. beside w u) (no-more t (omega arith))
tail-beside (node i k run ls t) u o = ap (λ w. beside w u) (no-more t (omega arith))

narrow-beside : (d : ℕ) (t u : Trees) → IsNarrow d t → IsNarrow d u → IsNarrow d (beside t u)
narrow-beside d done u h g = g
narrow-beside d (absent t) u h g = narrow-beside d t u h g
narrow-beside d (node i k run ls t) u h g = (h.0, h.1, h.2, narrow-beside d t u h.3 g)

-- two trees are linked to a node between them
linked-more : (a m n b : ArenaState) (xs : List Cell) (c : Cell) (ys : List Cell) (pre post : Option ℕ) → AreDistinct (xs ++ c ∷ ys) → length ys ≤ length xs
    → length xs ≤ length ys + 1
    → IsLinked a m xs pre → IsLinked m n ys post → ChangesNode n b c.at (Some (record { kind = c.kind; run = c.run; links = pre ∷ post ∷ [] }))
    → IsLinked a b (xs ++ c ∷ ys) (Some c.at)
linked-more a m n b xs c ys pre post dis few1 few2 l u ch =
    let row = beside l.tree u.tree in
    let one : One l.tree = ap length l.root in
    let dp = AreDistinct-parts xs (c ∷ ys) dis in
    let clr = clear-parts xs (c ∷ ys) dis in
    let rs : roots row ≡ pre ∷ post ∷ [] = roots-beside l.tree u.tree ∙ ap (λ w. w ++ roots u.tree) l.root ∙ ap (λ w. pre ∷ w) u.root in
    let avoids_l : (j : ℕ) → Without j xs → Avoids j l.tree = λ j h. Avoids-cells j l.tree (subst (Without j) (sym l.cells_are) h) in
    let avoids_u : (j : ℕ) → Without j ys → Avoids j u.tree = λ j h. Avoids-cells j u.tree (subst (Without j) (sym u.cells_are) h) in
    let apart : IsApart l.tree u.tree = IsApart-by l.tree u.tree (λ j. sides j (either j xs ys (AreDistinct-skip xs c ys dis))) in
    let al : Avoids c.at l.tree = avoids_l c.at clr.0 in
    let au : Avoids c.at u.tree = avoids_u c.at dp.1.0 in
    let st_l : Stands n l.tree = Stands-outside m n u.tree l.tree (λ i h v. u.keeps i (subst (Without i) u.cells_are (Without-cells i u.tree v))) apart
    l.stands in
    record {
      tree = node c.at c.kind c.run row done;
      root = refl;
      stands = (
        ch.node.changed ∙ ap (λ w. Some (record { kind = c.kind; run = c.run; links = w })) (sym rs),
        Stands-beside b l.tree u.tree (Stands-changed l.tree ch al st_l) (Stands-changed u.tree ch au u.stands),
        tt,
      );
      once = (Avoids-beside c.at l.tree u.tree al au, tt, IsApart-done row, IsReachedOnce-beside l.tree u.tree l.once u.once apart, tt);
      cells_are = cells-node c.at c.kind c.run row ∙ ap (λ w. cells w ++ c ∷ cells (tail_of row)) (head-beside l.tree u.tree one)
          ∙ ap (λ w. cells l.tree ++ c ∷ cells w) (tail-beside l.tree u.tree one) ∙ ap (λ w. w ++ c ∷ cells u.tree) l.cells_are
          ∙ ap (λ w. xs ++ c ∷ w) u.cells_are;
      narrow = λ d h. low d h (ap length rs);
      keeps = λ j h. let hp = Without-parts j xs (c ∷ ys) h in ch.node.others j (λ e. hp.1.0 (sym e)) ∙ u.keeps j hp.1.1 ∙ l.keeps j hp.0;
    }
  where
    sides : (j : ℕ) → Without j xs ⊎ Without j ys → Avoids j l.tree ⊎ Avoids j u.tree
    sides j (inl h) = inl (Avoids-cells j l.tree (subst (Without j) (sym l.cells_are) h))
    sides j (inr h) = inr (Avoids-cells j u.tree (subst (Without j) (sym u.cells_are) h))

    low : (d : ℕ) → length (xs ++ c ∷ ys) < 2 ^ d → length (roots (beside l.tree u.tree)) ≡ 2 → IsNarrow d (node c.at c.kind c.run (beside l.tree u.tree) done)
    low zero h e =
        let len : length (xs ++ c ∷ ys) ≡ length xs + suc (length ys) = length-append xs (c ∷ ys) in
        absurd (omega arith)
    low (suc d) h e =
        let len : length (xs ++ c ∷ ys) ≡ length xs + suc (length ys) = length-append xs (c ∷ ys) in
        let dd : 2 ^ suc d ≡ 2 ^ d + 2 ^ d = double d in
        let less : suc d - 1 ≡ d = omega arith in
        let sl : IsNarrow d l.tree = l.narrow d (omega arith) in
        let su : IsNarrow d u.tree = u.narrow d (omega arith) in
        (omega arith, e, subst (λ n. IsNarrow n (beside l.tree u.tree)) (sym less) (narrow-beside d l.tree u.tree sl su), tt)

module _ (a m n : ArenaState) (ids : List ℕ) (cs : List Cell) (half d : ℕ) (pre post : Option ℕ) where
  -- the middle node is as it was when both sides have been linked
  mid-there : (h : Halved a ids cs half d) → IsLinked a m h.xs pre → IsLinked m n h.ys post → CellStands n h.mid
  mid-there h l u = (h.there.0, u.keeps h.mid.at h.clear_ys ∙ l.keeps h.mid.at h.clear_xs ∙ h.there.1)

  pub mid-some : (h : Halved a ids cs half d) → IsLinked a m h.xs pre → IsLinked m n h.ys post → IsSome (node_at n (get_or ids half d))
  mid-some h l u = subst (λ i. IsSome (node_at n i)) (sym h.root) (subst IsSome (sym (mid-there h l u).1) refl)

  pub linked-both : (b : ArenaState) → (h : Halved a ids cs half d) → IsLinked a m h.xs pre → IsLinked m n h.ys post
      → IfSome (node_at n (get_or ids half d)) (λ v. ChangesNode n b (get_or ids half d) (Some (record v { links = pre ∷ post ∷ [] })))
      → IsLinked a b cs (Some (get_or ids half d))
  linked-both b h l u ch =
      let ch1 : IfSome (node_at n h.mid.at) (λ v. ChangesNode n b h.mid.at (Some (record v { links = pre ∷ post ∷ [] }))) =
      subst (λ i. IfSome (node_at n i) (λ v. ChangesNode n b i (Some (record v { links = pre ∷ post ∷ [] })))) h.root ch in
      let ch2 : ChangesNode n b h.mid.at (Some (record { kind = h.mid.kind; run = h.mid.run; links = pre ∷ post ∷ [] })) =
      subst (λ v. IfSome v (λ v. ChangesNode n b h.mid.at (Some (record v { links = pre ∷ post ∷ [] })))) (mid-there h l u).1 ch1 in
      subst (λ i. IsLinked a b cs (Some i)) (sym h.root)
      (subst (λ w. IsLinked a b w (Some h.mid.at)) (sym h.is)
      (linked-more a m n b h.xs h.mid h.ys pre post h.distinct h.few1 h.few2 l u ch2))

-- no numbers are an empty tree
pub none-linked : (a : ArenaState) (ids : List ℕ) (cs : List Cell) → length ids ≡ 0 → IsLaid a ids cs → IsLinked a a cs None
none-linked a ids cs e l =
    let len : length ids ≡ length cs = ap length l.ids_are ∙ length-map cs (λ c. c.at) in
    subst (λ w. IsLinked a a w None) (sym (nothing cs (omega arith))) (linked-none a)
  where
    nothing : (xs : List Cell) → length xs ≡ 0 → xs ≡ []
    nothing [] h = refl
    nothing (x ∷ xs) h = absurd (omega arith)
