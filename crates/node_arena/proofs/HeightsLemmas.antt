-- Woven nodes below one another: in a structure of n elements at most so many that 2 to their number is at most n + 1.
use Rattle.std.proofs.Common.{◌≡◌, ◌≤◌, ◌<◌, ◌+◌, ◌^◌, ◌⊎◌, inl, inr, ℕ, zero, suc, max, List, [], ◌∷◌, ◌++◌, map, length, true}
use Rattle.std.proofs.Common.{refl, ap, ◌∙◌, sym, subst, arith, length-append}
use Rattle.std.proofs.Math.Nat.{pow-zero, two-pow-succ}
use Rattle.std.proofs.Math.Pow.{pow_mono}
use Rattle.std.proofs.lemmas.Nat.{pow_pos}
use Rattle.node_arena.specs.declared.elements.Elem.{Elem}
use Rattle.node_arena.specs.declared.elements.Structure.{Structure}
use Rattle.node_arena.specs.declared.kinds.NodeKind.{NodeKind}
use Rattle.node_arena.specs.declared.kinds.Shape.{Shape}
use Rattle.node_arena.specs.declared.kinds.Shape.TheVariants.{Flat, Post, Ends, Woven}
use Rattle.node_arena.specs.Arenas.{ArenaState}
use Rattle.node_arena.specs.Conforming.{Place, whole, children, woven_places, places, Hang, height, AllHigh, IsLevelAt, IsLevel, Conform}
use Rattle.node_arena.specs.Kinds.{kind_at, shape_at}
use Rattle.node_arena.specs.Rules.{AreSound}
use Rattle.node_arena.specs.Structures.{Tree, empty, rooted, flat, links_of, IsStanding, IsConforming}
use Rattle.node_arena.specs.Trees.{Trees, done, absent, node}
use Rattle.node_arena.specs.Walks.{item, link, weave, between, parts, joined, walk, walks}
use Rattle.node_arena.proofs.PlacesLemmas.{length-children, count-walks, AllSome, AllOf, AllSome-woven, AllOf-woven, whole-some, some-places}
use Rattle.node_arena.proofs.WalksLemmas.{total, walk-total, total-run, total-ends, length-bare, length-weave}

-- ---- levels

-- the levels of a node, from the greatest number of levels below it
abbrev pub levels_by : Shape → ℕ → ℕ
levels_by Flat n = n
levels_by (Post _) n = n
levels_by (Ends _ _) n = n
levels_by Woven n = 1 + n

-- how many woven nodes at most lie below one another in the trees
abbrev pub levels : List NodeKind → Trees → ℕ
levels s done = 0
levels s (absent rest) = levels s rest
levels s (node i k run ls rest) = max (levels_by (shape_at s k) (levels s ls)) (levels s rest)

-- ---- powers of two

-- of two powers of 2, the lower one has the lower exponent
pub pow-below : (h d : ℕ) → 2 ^ h < 2 ^ d → h < d
pow-below h zero l = let s : 0 < 2 ^ h = pow_pos h in let o : 2 ^ 0 ≡ 1 = pow-zero 2 in absurd (omega arith)
pow-below zero (suc d) l = omega arith
pow-below (suc h) (suc d) l =
    let a : 2 ^ suc h ≡ 2 ^ h + 2 ^ h = two-pow-succ h in
    let b : 2 ^ suc d ≡ 2 ^ d + 2 ^ d = two-pow-succ d in
    let ih : h < d = pow-below h d (omega arith) in
    omega arith

max_cases : (a b : ℕ) → (max a b ≡ a) ⊎ (max a b ≡ b)
max_cases zero b = inr (omega arith)
max_cases (suc a) zero = inl (omega arith)
max_cases (suc a) (suc b) = more (max_cases a b)
  where
    more : (max a b ≡ a) ⊎ (max a b ≡ b) → (max (suc a) (suc b) ≡ suc a) ⊎ (max (suc a) (suc b) ≡ suc b)
    more (inl e) = inl (omega arith)
    more (inr e) = inr (omega arith)

pow-max : (a b n : ℕ) → 2 ^ a ≤ n → 2 ^ b ≤ n → 2 ^ max a b ≤ n
pow-max a b n h g = pick (max_cases a b)
  where
    pick : (max a b ≡ a) ⊎ (max a b ≡ b) → 2 ^ max a b ≤ n
    pick (inl e) = subst (λ m. 2 ^ m ≤ n) (sym e) h
    pick (inr e) = subst (λ m. 2 ^ m ≤ n) (sym e) g

pow-next : (n m : ℕ) → 1 + n ≡ m → 2 ^ m ≡ 2 ^ n + 2 ^ n
pow-next n m e = let f : m ≡ suc n = omega arith in ap (λ k. 2 ^ k) f ∙ two-pow-succ n

abbrev times : ℕ → ℕ → ℕ
times zero m = 0
times (suc n) m = m + times n m

times-two : (n m : ℕ) → 2 ≤ n → m + m ≤ times n m
times-two zero m l = absurd (omega arith)
times-two (suc zero) m l = absurd (omega arith)
times-two (suc (suc n)) m l = omega arith

-- ---- the bound

module _ (s : List NodeKind) where
  -- children of a woven node, one more than elements
  fan-size : (p : Place) (run : List Elem) (ls : Trees) → 1 ≤ length run → Hang s (children p run) ls
      → times (length (children p run)) (2 ^ height s ls) ≤ total (walks s ls) + length (children p run)
      → 2 ^ height s ls + 2 ^ height s ls ≤ length (joined (weave run (walks s ls))) + 1
  fan-size p run ls some h ih =
      let n : length (children p run) ≡ length run + 1 = length-children p run in
      let c : length (walks s ls) ≡ length (children p run) = count-walks s (children p run) ls h in
      let w : length (joined (weave run (walks s ls))) ≡ length run + total (walks s ls) = length-weave run (walks s ls) (omega arith) in
      let two = times-two (length (children p run)) (2 ^ height s ls) (omega arith) in
      omega arith

  -- a woven node has twice the elements of its lowest child, and one more
  woven-size : (p : Place) (run : List Elem) (ls : Trees) → 1 ≤ length run → Hang s (woven_places p run ls) ls
      → times (length (woven_places p run ls)) (2 ^ height s ls) ≤ total (walks s ls) + length (woven_places p run ls)
      → 2 ^ height s ls + 2 ^ height s ls ≤ length (joined (weave run (walks s ls))) + 1
  woven-size p run done some h ih =
      let w : length (joined (weave run [])) ≡ length run = length-bare run in
      let o : 2 ^ 0 ≡ 1 = pow-zero 2 in
      omega arith
  woven-size p run (absent t) some h ih = fan-size p run (absent t) some h ih
  woven-size p run (node i k r ls t) some h ih = fan-size p run (node i k r ls t) some h ih

  module _ (sound : AreSound s) where
    -- woven nodes of one height in a row
    row-size : (k h : ℕ) (ps : List Place) (t : Trees) → shape_at s k ≡ Woven → AllOf k ps → AllSome ps → Hang s ps t → IsLevel s t → AllHigh s h t
        → times (length ps) (2 ^ h) ≤ total (walks s t) + length ps
    row-size k h [] done e of some hang level high = omega arith
    row-size k h (p ∷ ps) done e of some hang level high = cc
    row-size k h [] (absent t) e of some hang level high = absurd hang
    row-size k h (p ∷ ps) (absent t) e of some hang level high =
        let o : 2 ^ h ≡ 1 = ap (λ n. 2 ^ n) high.0 ∙ pow-zero 2 in
        let rest : times (length ps) (2 ^ h) ≤ total (walks s t) + length ps = row-size k h ps t e of.1 some.1 hang.1 level high.1 in
        omega arith
    row-size k h [] (node i m run ls t) e of some hang level high = absurd hang
    row-size k h (p ∷ ps) (node i m run ls t) e of some hang level high =
        let shape : shape_at s m ≡ Woven = ap (shape_at s) (hang.0 ∙ of.0) ∙ e in
        let place : Place = record { kind = m; least = (kind_at s m).lo; must = true } in
        let own : Hang s (woven_places place run ls) ls = subst (λ sh. Hang s (places s sh m run ls) ls) shape hang.3 in
        let even : AllHigh s (height s ls) ls = subst (λ sh. IsLevelAt s sh ls) shape level.0 in
        let some_below : AllSome (woven_places place run ls) = AllSome-woven place run ls (sound.some m) in
        let below = row-size m (height s ls) (woven_places place run ls) ls shape (AllOf-woven place run ls) some_below own level.1 even in
        let here : 2 ^ height s ls + 2 ^ height s ls ≤ length (joined (weave run (walks s ls))) + 1 =
        woven-size place run ls (omega (arith, some.0, hang.1)) own below in
        let same : length (joined (parts (shape_at s m) run (walks s ls))) ≡ length (joined (weave run (walks s ls))) =
        ap (λ sh. length (joined (parts sh run (walks s ls)))) shape in
        let rest : times (length ps) (2 ^ h) ≤ total (walks s t) + length ps = row-size k h ps t e of.1 some.1 hang.4 level.2 high.1 in
        let twice : 2 ^ h ≡ 2 ^ height s ls + 2 ^ height s ls = pow-next (height s ls) h high.0 in
        omega arith

    -- in woven nodes of one height there are no more levels
    row-levels : (k h : ℕ) (ps : List Place) (t : Trees) → shape_at s k ≡ Woven → AllOf k ps → Hang s ps t → IsLevel s t → AllHigh s h t → levels s t ≤ h
    row-levels k h ps done e of hang level high = omega arith
    row-levels k h [] (absent t) e of hang level high = absurd hang
    row-levels k h (p ∷ ps) (absent t) e of hang level high = row-levels k h ps t e of.1 hang.1 level high.1
    row-levels k h [] (node i m run ls t) e of hang level high = absurd hang
    row-levels k h (p ∷ ps) (node i m run ls t) e of hang level high =
        let shape : shape_at s m ≡ Woven = ap (shape_at s) (hang.0 ∙ of.0) ∙ e in
        let place : Place = record { kind = m; least = (kind_at s m).lo; must = true } in
        let own : Hang s (woven_places place run ls) ls = subst (λ sh. Hang s (places s sh m run ls) ls) shape hang.3 in
        let even : AllHigh s (height s ls) ls = subst (λ sh. IsLevelAt s sh ls) shape level.0 in
        let below : levels s ls ≤ height s ls = row-levels m (height s ls) (woven_places place run ls) ls shape (AllOf-woven place run ls) own level.1 even in
        let rest : levels s t ≤ h = row-levels k h ps t e of.1 hang.4 level.2 high.1 in
        let up : levels_by (shape_at s m) (levels s ls) ≡ 1 + levels s ls = ap (λ sh. levels_by sh (levels s ls)) shape in
        let top : 1 + height s ls ≡ h = high.0 in
        omega arith

    node-levels : (shape : Shape) (k : ℕ) (run : List Elem) (ls : Trees) → shape_at s k ≡ shape → 1 ≤ length run → Hang s (places s shape k run ls) ls
        → IsLevelAt s shape ls → IsLevel s ls → 2 ^ levels s ls ≤ total (walks s ls) + 1
        → 2 ^ levels_by shape (levels s ls) ≤ length (joined (parts shape run (walks s ls))) + 1
    node-levels Flat k run ls e some hang at level ih =
        let a : total (walks s ls) ≤ length (joined (map item run ++ map link (walks s ls))) = total-run run (walks s ls) in omega arith
    node-levels (Post p) k run ls e some hang at level ih =
        let a : total (walks s ls) ≤ length (joined (map item run ++ map link (walks s ls))) = total-run run (walks s ls) in omega arith
    node-levels (Ends p q) k run ls e some hang at level ih =
        let a : total (walks s ls) ≤ length (joined (between run (walks s ls))) = total-ends run (walks s ls) in omega arith
    node-levels Woven k run ls e some hang at level ih =
        let place : Place = record { kind = k; least = (kind_at s k).lo; must = true } in
        let ps = woven_places place run ls in
        let below = row-size k (height s ls) ps ls e (AllOf-woven place run ls) (AllSome-woven place run ls (sound.some k)) hang level at in
        let here : 2 ^ height s ls + 2 ^ height s ls ≤ length (joined (weave run (walks s ls))) + 1 = woven-size place run ls some hang below in
        let inner : levels s ls ≤ height s ls = row-levels k (height s ls) ps ls e (AllOf-woven place run ls) hang level at in
        let low : 2 ^ levels s ls ≤ 2 ^ height s ls = pow_mono inner in
        let twice : 2 ^ (1 + levels s ls) ≡ 2 ^ levels s ls + 2 ^ levels s ls = pow-next (levels s ls) (1 + levels s ls) refl in
        omega arith

    levels-hang : (ps : List Place) (t : Trees) → AllSome ps → Hang s ps t → IsLevel s t → 2 ^ levels s t ≤ length (walk s t) + 1
    levels-hang ps done some h l = let o : 2 ^ 0 ≡ 1 = pow-zero 2 in omega arith
    levels-hang [] (absent t) some h l = absurd h
    levels-hang (p ∷ ps) (absent t) some h l = levels-hang ps t some.1 h.1 l
    levels-hang [] (node i k run ls t) some h l = absurd h
    levels-hang (p ∷ ps) (node i k run ls t) some h l =
        let below : 2 ^ levels s ls ≤ length (walk s ls) + 1 =
        levels-hang (places s (shape_at s k) k run ls) ls (some-places s sound (shape_at s k) k run ls) h.3 l.1 in
        let beside : 2 ^ levels s t ≤ length (walk s t) + 1 = levels-hang ps t some.1 h.4 l.2 in
        let all : length (walk s ls) ≡ total (walks s ls) = walk-total s ls in
        let own = joined (parts (shape_at s k) run (walks s ls)) in
        let here : 2 ^ levels_by (shape_at s k) (levels s ls) ≤ length own + 1 =
        node-levels (shape_at s k) k run ls refl (omega (arith, some.0, h.1)) h.3 l.0 l.1 (omega arith) in
        let e : length (own ++ walk s t) ≡ length own + length (walk s t) = length-append own (walk s t) in
        pow-max (levels_by (shape_at s k) (levels s ls)) (levels s t) (length (own ++ walk s t) + 1) (omega arith) (omega arith)

    -- 2 to the number of levels is at most one more than the number of elements
    pub levels-bound : (k : ℕ) (t : Trees) → Hang s (whole s k ∷ []) t → IsLevel s t → 2 ^ levels s t ≤ length (walk s t) + 1
    levels-bound k t h l = levels-hang (whole s k ∷ []) t (whole-some s sound k, tt) h l

    -- where fewer than 2 to the 32 elements are walked, there are at most 32 levels
    pub levels-low : (k : ℕ) (t : Trees) → Hang s (whole s k ∷ []) t → IsLevel s t → length (walk s t) < 4294967296 → levels s t ≤ 32
    levels-low k t h l few =
        let b : 2 ^ levels s t ≤ length (walk s t) + 1 = levels-bound k t h l in
        let g : levels s t < 33 = pow-below (levels s t) 33 (omega arith) in
        omega arith

    -- the same of a structure
    pub levels-structure : (a : ArenaState) (k : ℕ) (st : Structure) (t : Tree) → IsStanding s a st t → IsConforming s k st t → st.len < 4294967296
        → levels s (links_of t) ≤ 32
    levels-structure a k st empty h c few = omega arith
    levels-structure a k st (flat i run) h c few = omega arith
    levels-structure a k st (rooted i m run ls) h c few =
        let counted : length (walk s (node i m run ls done)) ≡ st.len = h.counted in
        let conform : Conform s k (node i m run ls done) = c.tree.1 in
        levels-low k (node i m run ls done) conform.hangs conform.level (omega arith)

    whole-high : (k : ℕ) (t : Trees) → Hang s (whole s k ∷ []) t → AllHigh s (height s t) t
    whole-high k done h = tt
    whole-high k (absent done) h = (refl, tt)
    whole-high k (absent (absent t)) h = absurd h.1
    whole-high k (absent (node i m run ls t)) h = absurd h.1
    whole-high k (node i m run ls done) h = (refl, tt)
    whole-high k (node i m run ls (absent t)) h = absurd h.4
    whole-high k (node i m run ls (node j n r ks t)) h = absurd h.4

    -- 2 to the height of a woven structure is at most one more than the number of its elements
    pub height-bound : (k : ℕ) (t : Trees) → shape_at s k ≡ Woven → Hang s (whole s k ∷ []) t → IsLevel s t → 2 ^ height s t ≤ length (walk s t) + 1
    height-bound k t e h l =
        let b = row-size k (height s t) (whole s k ∷ []) t e (refl, tt) (whole-some s sound k, tt) h l (whole-high k t h) in
        let w : length (walk s t) ≡ total (walks s t) = walk-total s t in
        omega arith

    -- where fewer than 2 to the 32 elements are walked, a woven structure is at most 32 high
    pub height-low : (k : ℕ) (t : Trees) → shape_at s k ≡ Woven → Hang s (whole s k ∷ []) t → IsLevel s t → length (walk s t) < 4294967296 → height s t ≤ 32
    height-low k t e h l few =
        let b : 2 ^ height s t ≤ length (walk s t) + 1 = height-bound k t e h l in
        let g : height s t < 33 = pow-below (height s t) 33 (omega arith) in
        omega arith
