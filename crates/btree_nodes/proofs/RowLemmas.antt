-- Nodes of one kind and height in a row.
use Rattle.std.proofs.Common.{◌≡◌, ◌≢◌, ◌≤◌, ◌<◌, ◌+◌, ℕ, zero, suc, List, [], ◌∷◌, length, take, drop, get_or, Option, Some, None, IsSome, refl, ap, ◌∙◌, sym, subst, arith, append-nil, length-append}
use Rattle.node_arena.specs.declared.elements.Elem.{Elem}
use Rattle.node_arena.specs.declared.kinds.NodeKind.{NodeKind}
use Rattle.node_arena.specs.Arenas.{ArenaState, node_at}
use Rattle.node_arena.specs.Trees.{Trees, done, absent, node, roots, Avoids, IsApart}
use Rattle.node_arena.specs.Kinds.{shape_at}
use Rattle.node_arena.specs.Walks.{walk, walks, joined, parts}
use Rattle.node_arena.specs.Conforming.{height}
use Rattle.node_arena.proofs.RowsLemmas.{beside, roots-beside}
use Rattle.btree_nodes.specs.Weaving.{IsRow}

-- the links of two rows side by side
pub count-beside : (t u : Trees) → length (roots (beside t u)) ≡ length (roots t) + length (roots u)
count-beside t u = ap length (roots-beside t u) ∙ length-append (roots t) (roots u)

-- a walk for each link
pub count-walks : (s : List NodeKind) (t : Trees) → length (walks s t) ≡ length (roots t)
count-walks s done = refl
count-walks s (absent t) = ap suc (count-walks s t)
count-walks s (node i k run ls t) = ap suc (count-walks s t)

-- two rows side by side are a row
pub IsRow-beside : (s : List NodeKind) (k low h : ℕ) (t u : Trees) → IsRow s k low h t → IsRow s k low h u → IsRow s k low h (beside t u)
IsRow-beside s k low h done u r q = q
IsRow-beside s k low h (absent t) u r q = absurd r
IsRow-beside s k low h (node i m run ls t) u r q = (r.0, r.1, r.2, r.3, r.4, r.5, IsRow-beside s k low h t u r.6 q)

-- each of two rows that are one row side by side is a row
pub beside-IsRow : (s : List NodeKind) (k low h : ℕ) (t u : Trees) → IsRow s k low h (beside t u) → IsRow s k low h t × IsRow s k low h u
beside-IsRow s k low h done u r = (tt, r)
beside-IsRow s k low h (absent t) u r = absurd r
beside-IsRow s k low h (node i m run ls t) u r =
    let q = beside-IsRow s k low h t u r.6 in
    ((r.0, r.1, r.2, r.3, r.4, r.5, q.0), q.1)

-- a row that has a node is as high as said
pub IsRow-height : (s : List NodeKind) (k low h : ℕ) (t : Trees) → IsRow s k low h t → 1 ≤ length (roots t) → height s t ≡ h
IsRow-height s k low h done r l = absurd (omega arith)
IsRow-height s k low h (absent t) r l = absurd r
IsRow-height s k low h (node i m run ls t) r l = r.4

-- a link of a row is never absent
pub IsRow-some : (s : List NodeKind) (k low h : ℕ) (t : Trees) (j : ℕ) → IsRow s k low h t → j < length (roots t) → get_or (roots t) j None ≡ None → ⊥
IsRow-some s k low h done j r l e = omega arith
IsRow-some s k low h (absent t) j r l e = r
IsRow-some s k low h (node i m run ls t) zero r l e = cc
IsRow-some s k low h (node i m run ls t) (suc j) r l e = IsRow-some s k low h t j r.6 (omega arith) e

-- the node at a place of a row
pub record Focus (k : ℕ) (ls : Trees) (j c : ℕ) : Type 0 where
  pub before : Trees
  pub run : List Elem
  pub inner : Trees
  pub later : Trees
  pub is : ls ≡ beside before (node c k run inner later)
  pub place : length (roots before) ≡ j

-- each link of a row leads to a node
pub focus : (s : List NodeKind) (k low h : ℕ) (ls : Trees) (j : ℕ) (c : ℕ) → IsRow s k low h ls → get_or (roots ls) j None ≡ Some c → Focus k ls j c
focus s k low h done j c r e = cc
focus s k low h (absent t) j c r e = absurd r
focus s k low h (node i m run ls t) zero c r e =
    let number : i ≡ c = cc (e) in
    record { before = done; run = run; inner = ls; later = t; is = ap (λ n. node n m run ls t) number ∙ ap (λ q. node c q run ls t) r.0; place = refl }
focus s k low h (node i m run ls t) (suc j) c r e =
    let f = focus s k low h t j c r.6 e in
    record { before = node i m run ls f.before; run = f.run; inner = f.inner; later = f.later; is = ap (node i m run ls) f.is; place = ap suc f.place }

-- the first nodes of a row, and the others
abbrev pub firsts : ℕ → Trees → Trees
firsts n done = done
firsts zero (absent t) = done
firsts (suc n) (absent t) = absent (firsts n t)
firsts zero (node i k run ls t) = done
firsts (suc n) (node i k run ls t) = node i k run ls (firsts n t)

-- what is left of a row behind its first nodes
abbrev pub others : ℕ → Trees → Trees
others n done = done
others zero (absent t) = absent t
others (suc n) (absent t) = others n t
others zero (node i k run ls t) = node i k run ls t
others (suc n) (node i k run ls t) = others n t

-- the first nodes and the others make the row
pub parts-beside : (n : ℕ) (t : Trees) → beside (firsts n t) (others n t) ≡ t
parts-beside n done = refl
parts-beside zero (absent t) = refl
parts-beside (suc n) (absent t) = ap absent (parts-beside n t)
parts-beside zero (node i k run ls t) = refl
parts-beside (suc n) (node i k run ls t) = ap (node i k run ls) (parts-beside n t)

-- the first links
pub roots-firsts : (n : ℕ) (t : Trees) → roots (firsts n t) ≡ take n (roots t)
roots-firsts zero done = refl
roots-firsts (suc n) done = refl
roots-firsts zero (absent t) = refl
roots-firsts (suc n) (absent t) = ap (λ r. None ∷ r) (roots-firsts n t)
roots-firsts zero (node i k run ls t) = refl
roots-firsts (suc n) (node i k run ls t) = ap (λ r. Some (i) ∷ r) (roots-firsts n t)

-- the other links
pub roots-others : (n : ℕ) (t : Trees) → roots (others n t) ≡ drop n (roots t)
roots-others zero done = refl
roots-others (suc n) done = refl
roots-others zero (absent t) = refl
roots-others (suc n) (absent t) = roots-others n t
roots-others zero (node i k run ls t) = refl
roots-others (suc n) (node i k run ls t) = roots-others n t

-- as many first nodes as asked for
pub count-firsts : (n : ℕ) (t : Trees) → n ≤ length (roots t) → length (roots (firsts n t)) ≡ n
count-firsts zero done l = refl
count-firsts (suc n) done l = absurd (omega arith)
count-firsts zero (absent t) l = refl
count-firsts (suc n) (absent t) l = ap suc (count-firsts n t (omega arith))
count-firsts zero (node i k run ls t) l = refl
count-firsts (suc n) (node i k run ls t) l = ap suc (count-firsts n t (omega arith))

-- one tree is one link and one walk
pub walks-one : (s : List NodeKind) (t : Trees) (i : ℕ) → roots t ≡ Some i ∷ [] → walks s t ≡ walk s t ∷ []
walks-one s done i e = cc
walks-one s (absent t) i e = let f : None ≡ Some i = ap (λ (r : List (Option ℕ)). get_or r 0 None) e in cc
walks-one s (node j k run ls t) i e =
    let none : roots t ≡ [] = ap (λ (r : List (Option ℕ)). drop 1 r) e in
    one t none
  where
    one : (u : Trees) → roots u ≡ [] → walks s (node j k run ls u) ≡ walk s (node j k run ls u) ∷ []
    one done e = ap (λ w. w ∷ []) (sym (append-nil (joined (parts (shape_at s k) run (walks s ls)))))
    one (absent u) e = cc
    one (node n m r l u) e = cc

-- apart from nothing
pub IsApart-done : (t : Trees) → IsApart t done
IsApart-done done = tt
IsApart-done (absent t) = IsApart-done t
IsApart-done (node i k run ls t) = (tt, IsApart-done ls, IsApart-done t)

-- apart from a node and from what is below it
pub IsApart-node : (j k : ℕ) (run : List Elem) (ls t : Trees) → Avoids j t → IsApart t ls → IsApart t (node j k run ls done)
IsApart-node j k run ls done v h = tt
IsApart-node j k run ls (absent t) v h = IsApart-node j k run ls t v h
IsApart-node j k run ls (node i m r l t) v h =
    (((λ e. v.0 (sym e)), h.0, tt), IsApart-node j k run ls l v.1 h.1, IsApart-node j k run ls t v.2 h.2)

-- a number with a node and one without are two
pub some_differs : (a : ArenaState) (i j : ℕ) → IsSome (node_at a i) → node_at a j ≡ None → j ≢ i
some_differs a i j h e same = absurd_some (subst (λ n. IsSome (node_at a n)) (sym same) h) e
  where
    absurd_some : IsSome (node_at a j) → node_at a j ≡ None → ⊥
    absurd_some h e = let k = subst IsSome e h in cc
