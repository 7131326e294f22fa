-- Cells in a row, and the cells of trees.
use Rattle.std.proofs.Common.{◌≡◌, ◌≢◌, ◌<◌, ◌⊎◌, inl, inr, ℕ, List, [], ◌∷◌, ◌++◌, refl, ap, ◌∙◌, sym, subst, arith, append-nil, Bool, true, false, ltb}
use Rattle.node_arena.specs.declared.elements.Elem.{Elem}
use Rattle.node_arena.specs.Arenas.{ArenaState, node_at}
use Rattle.node_arena.specs.Trees.{Trees, done, absent, node, roots, Stands, Avoids, IsApart, IsReachedOnce}
use Rattle.node_arena.proofs.RowsLemmas.{IsApart-flip}
use Rattle.chunk_tree.specs.Relinking.{Cell, CellStands, AllStand, Without, AreDistinct, joined_rows, around, rows, cells}
use Rattle.chunk_tree.proofs.Pairs.{head_of, tail_of}

-- ---- parts of a row

-- a number that the whole row hasn't, neither part has
pub Without-parts : (j : ℕ) (xs ys : List Cell) → Without j (xs ++ ys) → Without j xs × Without j ys
Without-parts j [] ys h = (tt, h)
Without-parts j (x ∷ xs) ys h = let r = Without-parts j xs ys h.1 in ((h.0, r.0), r.1)

-- a number that neither part has
pub Without-join : (j : ℕ) (xs ys : List Cell) → Without j xs → Without j ys → Without j (xs ++ ys)
Without-join j [] ys h g = g
Without-join j (x ∷ xs) ys h g = (h.0, Without-join j xs ys h.1 g)

-- of distinct cells each part is distinct
pub AreDistinct-parts : (xs ys : List Cell) → AreDistinct (xs ++ ys) → AreDistinct xs × AreDistinct ys
AreDistinct-parts [] ys h = (tt, h)
AreDistinct-parts (x ∷ xs) ys h = let r = AreDistinct-parts xs ys h.1 in (((Without-parts x.at xs ys h.0).0, r.0), r.1)

-- of cells that stand each part stands
pub AllStand-parts : (a : ArenaState) (xs ys : List Cell) → AllStand a (xs ++ ys) → AllStand a xs × AllStand a ys
AllStand-parts a [] ys h = (tt, h)
AllStand-parts a (x ∷ xs) ys h = let r = AllStand-parts a xs ys h.1 in ((h.0, r.0), r.1)

-- without the one between them
pub AreDistinct-skip : (ps : List Cell) (q : Cell) (rs : List Cell) → AreDistinct (ps ++ q ∷ rs) → AreDistinct (ps ++ rs)
AreDistinct-skip [] q rs h = h.1
AreDistinct-skip (p ∷ ps) q rs h =
    let w = Without-parts p.at ps (q ∷ rs) h.0 in
    (Without-join p.at ps rs w.0 w.1.1, AreDistinct-skip ps q rs h.1)

-- ---- two rows that share no number

-- none of the others has the number of one of the cells
abbrev pub AreClear : List Cell → List Cell → Type 0
AreClear xs [] = Unit {0}
AreClear xs (c ∷ cs) = Without c.at xs × AreClear xs cs

clear-cons : (x : Cell) (xs cs : List Cell) → Without x.at cs → AreClear xs cs → AreClear (x ∷ xs) cs
clear-cons x xs [] h g = tt
clear-cons x xs (c ∷ cs) h g = (((λ e. h.0 (sym e)), g.0), clear-cons x xs cs h.1 g.1)

clear-none : (cs : List Cell) → AreClear [] cs
clear-none [] = tt
clear-none (c ∷ cs) = (tt, clear-none cs)

-- two parts of a row of distinct cells
pub clear-parts : (xs cs : List Cell) → AreDistinct (xs ++ cs) → AreClear xs cs
clear-parts [] cs h = clear-none cs
clear-parts (x ∷ xs) cs h = clear-cons x xs cs (Without-parts x.at xs cs h.0).1 (clear-parts xs cs h.1)

-- cells apart from what was changed stand as before
pub AllStand-moved : (a b : ArenaState) (xs cs : List Cell) → ((j : ℕ) → Without j xs → node_at b j ≡ node_at a j) → AreClear xs cs → AllStand a cs
    → AllStand b cs
AllStand-moved a b xs [] f h g = tt
AllStand-moved a b xs (c ∷ cs) f h g = ((g.0.0, f c.at h.0 ∙ g.0.1), AllStand-moved a b xs cs f h.1 g.1)

-- a number is the same or another one
pub either-step : (n j : ℕ) (P : Type 0) → (n ≡ j → P) → (n ≢ j → P) → (b c : Bool) → ltb n j ≡ b → ltb j n ≡ c → P
either-step n j P f g true c h k = g (λ e. let l : n < j = grind (arith, h) in omega arith)
either-step n j P f g false true h k = g (λ e. let l : j < n = grind (arith, k) in omega arith)
either-step n j P f g false false h k = f (grind (arith, h, k))

-- no number is in both parts
pub either : (j : ℕ) (xs ys : List Cell) → AreDistinct (xs ++ ys) → Without j xs ⊎ Without j ys
either j [] ys h = inl tt
either j (x ∷ xs) ys h =
    either-step x.at j (Without j (x ∷ xs) ⊎ Without j ys)
    (λ e. inr (subst (λ n. Without n ys) e (Without-parts x.at xs ys h.0).1))
    (λ ne. more ne (either j xs ys h.1))
    (ltb x.at j) (ltb j x.at) refl refl
  where
    more : x.at ≢ j → Without j xs ⊎ Without j ys → Without j (x ∷ xs) ⊎ Without j ys
    more ne (inl g) = inl (ne, g)
    more ne (inr g) = inr g

-- trees of which each number is avoided by one are apart
pub IsApart-by : (t u : Trees) → ((j : ℕ) → Avoids j t ⊎ Avoids j u) → IsApart t u
IsApart-by done u f = tt
IsApart-by (absent t) u f = IsApart-by t u f
IsApart-by (node i k run ls t) u f =
    (mine (f i), IsApart-by ls u (λ j. below j (f j)), IsApart-by t u (λ j. later j (f j)))
  where
    mine : Avoids i (node i k run ls t) ⊎ Avoids i u → Avoids i u
    mine (inl h) = absurd (h.0 refl)
    mine (inr h) = h

    below : (j : ℕ) → Avoids j (node i k run ls t) ⊎ Avoids j u → Avoids j ls ⊎ Avoids j u
    below j (inl h) = inl h.1
    below j (inr h) = inr h

    later : (j : ℕ) → Avoids j (node i k run ls t) ⊎ Avoids j u → Avoids j t ⊎ Avoids j u
    later j (inl h) = inl h.2
    later j (inr h) = inr h

-- ---- a cell between rows

Without-around : (j : ℕ) (c : Cell) (ws : List (List Cell)) → c.at ≢ j → Without j (joined_rows ws) → Without j (around c ws)
Without-around j c [] h g = (h, tt)
Without-around j c (w ∷ ws) h g = put w g
  where
    put : (v : List Cell) → Without j (v ++ joined_rows ws) → Without j (v ++ c ∷ joined_rows ws)
    put [] g = (h, g)
    put (x ∷ v) g = (g.0, put v g.1)

around-Without : (j : ℕ) (c : Cell) (ws : List (List Cell)) → Without j (around c ws) → (c.at ≢ j) × Without j (joined_rows ws)
around-Without j c [] h = (h.0, tt)
around-Without j c (w ∷ ws) h =
    let p = Without-parts j w (c ∷ joined_rows ws) h in
    (p.1.0, Without-join j w (joined_rows ws) p.0 p.1.1)

AllStand-join : (a : ArenaState) (xs ys : List Cell) → AllStand a xs → AllStand a ys → AllStand a (xs ++ ys)
AllStand-join a [] ys h g = g
AllStand-join a (x ∷ xs) ys h g = (h.0, AllStand-join a xs ys h.1 g)

AllStand-around : (a : ArenaState) (c : Cell) (ws : List (List Cell)) → CellStands a c → AllStand a (joined_rows ws) → AllStand a (around c ws)
AllStand-around a c [] h g = (h, tt)
AllStand-around a c (w ∷ ws) h g = put w g
  where
    put : (v : List Cell) → AllStand a (v ++ joined_rows ws) → AllStand a (v ++ c ∷ joined_rows ws)
    put [] g = (h, g)
    put (x ∷ v) g = (g.0, put v g.1)

AreDistinct-around : (c : Cell) (ws : List (List Cell)) → Without c.at (joined_rows ws) → AreDistinct (joined_rows ws) → AreDistinct (around c ws)
AreDistinct-around c [] h g = (tt, tt)
AreDistinct-around c (w ∷ ws) h g = put w h g
  where
    put : (v : List Cell) → Without c.at (v ++ joined_rows ws) → AreDistinct (v ++ joined_rows ws) → AreDistinct (v ++ c ∷ joined_rows ws)
    put [] h g = (h, g)
    put (x ∷ v) h g =
        let p = Without-parts x.at v (joined_rows ws) g.0 in
        (Without-join x.at v (c ∷ joined_rows ws) p.0 ((λ e. h.0 (sym e)), p.1), put v h.1 g.1)

-- ---- the cells of trees

abbrev cell_of : ℕ → ℕ → List Elem → Cell
cell_of i k run = record { at = i; kind = k; run = run }

-- a number that the trees avoid, no cell has
pub Without-cells : (j : ℕ) (t : Trees) → Avoids j t → Without j (cells t)
Without-cells j done h = tt
Without-cells j (absent t) h = Without-cells j t h
Without-cells j (node i k run ls t) h =
    Without-join j (around (cell_of i k run) (rows ls)) (cells t) (Without-around j (cell_of i k run) (rows ls) h.0 (Without-cells j ls h.1))
    (Without-cells j t h.2)

-- and the other way round
pub Avoids-cells : (j : ℕ) (t : Trees) → Without j (cells t) → Avoids j t
Avoids-cells j done h = tt
Avoids-cells j (absent t) h = Avoids-cells j t h
Avoids-cells j (node i k run ls t) h =
    let p = Without-parts j (around (cell_of i k run) (rows ls)) (cells t) h in
    let q = around-Without j (cell_of i k run) (rows ls) p.0 in
    (q.0, Avoids-cells j ls q.1, Avoids-cells j t p.1)

-- the cells of trees that stand do
pub AllStand-cells : (a : ArenaState) (t : Trees) → Stands a t → AllStand a (cells t)
AllStand-cells a done h = tt
AllStand-cells a (absent t) h = AllStand-cells a t h
AllStand-cells a (node i k run ls t) h =
    AllStand-join a (around (cell_of i k run) (rows ls)) (cells t)
    (AllStand-around a (cell_of i k run) (rows ls) (roots ls, h.0) (AllStand-cells a ls h.1)) (AllStand-cells a t h.2)

clear-first : (x : Cell) (xs ys : List Cell) → AreClear (x ∷ xs) ys → Without x.at ys
clear-first x xs [] h = tt
clear-first x xs (y ∷ ys) h = ((λ e. h.0.0 (sym e)), clear-first x xs ys h.1)

clear-rest : (x : Cell) (xs ys : List Cell) → AreClear (x ∷ xs) ys → AreClear xs ys
clear-rest x xs [] h = tt
clear-rest x xs (y ∷ ys) h = (h.0.1, clear-rest x xs ys h.1)

AreDistinct-join : (xs ys : List Cell) → AreDistinct xs → AreDistinct ys → AreClear xs ys → AreDistinct (xs ++ ys)
AreDistinct-join [] ys h g c = g
AreDistinct-join (x ∷ xs) ys h g c =
    (Without-join x.at xs ys h.0 (clear-first x xs ys c), AreDistinct-join xs ys h.1 g (clear-rest x xs ys c))

clear-join : (xs us vs : List Cell) → AreClear xs us → AreClear xs vs → AreClear xs (us ++ vs)
clear-join xs [] vs h g = g
clear-join xs (u ∷ us) vs h g = (h.0, clear-join xs us vs h.1 g)

clear-around : (xs : List Cell) (c : Cell) (ws : List (List Cell)) → Without c.at xs → AreClear xs (joined_rows ws) → AreClear xs (around c ws)
clear-around xs c [] h g = (h, tt)
clear-around xs c (w ∷ ws) h g = put w g
  where
    put : (v : List Cell) → AreClear xs (v ++ joined_rows ws) → AreClear xs (v ++ c ∷ joined_rows ws)
    put [] g = (h, g)
    put (x ∷ v) g = (g.0, put v g.1)

clear-cells : (u v : Trees) (xs : List Cell) → ((j : ℕ) → Avoids j v → Without j xs) → IsApart u v → AreClear xs (cells u)
clear-cells done v xs f h = tt
clear-cells (absent u) v xs f h = clear-cells u v xs f h
clear-cells (node i k run ls u) v xs f h =
    clear-join xs (around (cell_of i k run) (rows ls)) (cells u)
    (clear-around xs (cell_of i k run) (rows ls) (f i h.0) (clear-cells ls v xs f h.1)) (clear-cells u v xs f h.2)

-- the cells of trees of which no node is reached twice are distinct
pub AreDistinct-cells : (t : Trees) → IsReachedOnce t → AreDistinct (cells t)
AreDistinct-cells done h = tt
AreDistinct-cells (absent t) h = AreDistinct-cells t h
AreDistinct-cells (node i k run ls t) h =
    let c : Cell = cell_of i k run in
    AreDistinct-join (around c (rows ls)) (cells t)
    (AreDistinct-around c (rows ls) (Without-cells i ls h.0) (AreDistinct-cells ls h.3)) (AreDistinct-cells t h.4)
    (clear-cells t (node i k run ls done) (around c (rows ls)) (λ j v. Without-around j c (rows ls) v.0 (Without-cells j ls v.1))
    (IsApart-flip (node i k run ls done) t (h.1, h.2, tt)))

-- the root's cell stands between those of the two links
pub cells-node : (i k : ℕ) (run : List Elem) (ls : Trees)
    → cells (node i k run ls done) ≡ cells (head_of ls) ++ (record { at = i; kind = k; run = run } ∷ cells (tail_of ls))
cells-node i k run done = refl
cells-node i k run (absent v) = append-nil (cell_of i k run ∷ cells v)
cells-node i k run (node j m r l v) =
    append-nil (around (cell_of j m r) (rows l) ++ (cell_of i k run ∷ cells v))
    ∙ ap (λ w. w ++ (cell_of i k run ∷ cells v)) (sym (append-nil (around (cell_of j m r) (rows l))))
