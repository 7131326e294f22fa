-- The parts of a node, joined.
use Rattle.std.proofs.Common.{◌≡◌, ℕ, zero, suc, List, [], ◌∷◌, ◌++◌, map, slice_get, Some, refl, ap, ◌∙◌, sym, subst, append_assoc, append-nil}
use Rattle.node_arena.specs.declared.elements.Elem.{Elem}
use Rattle.node_arena.specs.declared.kinds.NodeKind.{NodeKind}
use Rattle.node_arena.specs.declared.kinds.Shape.{Shape}
use Rattle.node_arena.specs.declared.kinds.Shape.TheVariants.{Flat, Post, Ends, Woven}
use Rattle.node_arena.specs.Conforming.{Place, Hang}
use Rattle.node_arena.specs.Kinds.{shape_at}
use Rattle.node_arena.specs.Trees.{Trees, done, absent, node}
use Rattle.node_arena.specs.Walks.{Part, item, link, parts, between, weave, joined, walk, walks}
use Rattle.iter_gen.specs.Folding.{first_walk}

-- ---- rows

-- the trees behind the first one
abbrev pub behind_first : Trees → Trees
behind_first done = done
behind_first (absent rest) = rest
behind_first (node i k run ls rest) = rest

-- one tree hangs at one place
joined-one : (s : List NodeKind) (p : Place) (ls : Trees) → Hang s (p ∷ []) ls → joined (map link (walks s ls)) ≡ first_walk s ls
joined-one s p done h = cc
joined-one s p (absent done) h = refl
joined-one s p (absent (absent rest)) h = absurd h.1
joined-one s p (absent (node i k run ls rest)) h = absurd h.1
joined-one s p (node i k run ls done) h = append-nil (joined (parts (shape_at s k) run (walks s ls)))
joined-one s p (node i k run ls (absent rest)) h = absurd h.4
joined-one s p (node i k run ls (node j m r l rest)) h = absurd h.4

-- ---- joined

-- the elements of a run are joined as they are
pub joined-items : (run : List Elem) (ps : List (Part (List Elem))) → joined (map item run ++ ps) ≡ run ++ joined ps
joined-items [] ps = refl
joined-items (x ∷ xs) ps = ap (λ w. x ∷ w) (joined-items xs ps)

-- elements alone
pub joined-run : (run : List Elem) → joined (map item run) ≡ run
joined-run [] = refl
joined-run (x ∷ xs) = ap (λ w. x ∷ w) (joined-run xs)

-- a woven node without links
pub joined-bare : (run : List Elem) → joined (weave run []) ≡ run
joined-bare [] = refl
joined-bare (x ∷ xs) = ap (λ w. x ∷ w) (joined-bare xs)

-- the run, and then what hangs at the only link
pub joined-post : (s : List NodeKind) (p : Place) (run : List Elem) (ls : Trees) → Hang s (p ∷ []) ls
    → joined (map item run ++ map link (walks s ls)) ≡ run ++ first_walk s ls
joined-post s p run ls h = joined-items run (map link (walks s ls)) ∙ ap (λ w. run ++ w) (joined-one s p ls h)

-- what hangs at the first link, the run, and what hangs at the second link
pub joined-ends : (s : List NodeKind) (p q : Place) (run : List Elem) (ls : Trees) → Hang s (p ∷ q ∷ []) ls
    → joined (between run (walks s ls)) ≡ first_walk s ls ++ (run ++ first_walk s (behind_first ls))
joined-ends s p q run done h = cc
joined-ends s p q run (absent rest) h = joined-post s q run rest h.1
joined-ends s p q run (node i k r ls rest) h =
    ap (λ w. joined (parts (shape_at s k) r (walks s ls)) ++ w) (joined-post s q run rest h.4)

-- the last link of a woven node has nothing behind
pub joined-last : (s : List NodeKind) (p : Place) (ls : Trees) → Hang s (p ∷ []) ls → joined (weave [] (walks s ls)) ≡ first_walk s ls
joined-last s p ls h = joined-one s p ls h

-- ---- an element of a list

-- the list has the element, with others before and behind
pub record Around (e : Elem) (xs : List Elem) : Type 0 where
  pub before : List Elem
  pub behind : List Elem
  pub is : xs ≡ before ++ e ∷ behind

same-elem : (x y : Elem) → Some x ≡ Some y → x ≡ y
same-elem x y e = cc

Around-run : (e : Elem) (run : List Elem) (j : ℕ) → slice_get run j ≡ Some e → Around e run
Around-run e [] j h = cc
Around-run e (x ∷ xs) zero h = record { before = []; behind = xs; is = ap (λ v. v ∷ xs) (same-elem x e h) }
Around-run e (x ∷ xs) (suc j) h =
    let r = Around-run e xs j h in
    record { before = x ∷ r.before; behind = r.behind; is = ap (λ w. x ∷ w) r.is }

Around-right : (e : Elem) (xs ys : List Elem) → Around e xs → Around e (xs ++ ys)
Around-right e xs ys r = record { before = r.before; behind = r.behind ++ ys; is = ap (λ w. w ++ ys) r.is ∙ append_assoc r.before (e ∷ r.behind) ys }

Around-left : (e : Elem) (xs ys : List Elem) → Around e ys → Around e (xs ++ ys)
Around-left e xs ys r =
    record { before = xs ++ r.before; behind = r.behind; is = ap (λ w. xs ++ w) r.is ∙ sym (append_assoc xs r.before (e ∷ r.behind)) }

Around-next : (e x : Elem) (xs : List Elem) → Around e xs → Around e (x ∷ xs)
Around-next e x xs r = record { before = x ∷ r.before; behind = r.behind; is = ap (λ w. x ∷ w) r.is }

Around-items : (e : Elem) (run : List Elem) (ps : List (Part (List Elem))) (j : ℕ) → slice_get run j ≡ Some e → Around e (joined (map item run ++ ps))
Around-items e run ps j h = subst (Around e) (sym (joined-items run ps)) (Around-right e run (joined ps) (Around-run e run j h))

Around-between : (e : Elem) (run : List Elem) (ws : List (List Elem)) (j : ℕ) → slice_get run j ≡ Some e → Around e (joined (between run ws))
Around-between e run [] j h = subst (Around e) (sym (joined-run run)) (Around-run e run j h)
Around-between e run (w ∷ ws) j h = Around-left e w (joined (map item run ++ map link ws)) (Around-items e run (map link ws) j h)

Around-weave : (e : Elem) (run : List Elem) (ws : List (List Elem)) (j : ℕ) → slice_get run j ≡ Some e → Around e (joined (weave run ws))
Around-weave e [] ws j h = cc
Around-weave e (x ∷ xs) [] zero h = record { before = []; behind = joined (weave xs []); is = ap (λ v. v ∷ joined (weave xs [])) (same-elem x e h) }
Around-weave e (x ∷ xs) [] (suc j) h = Around-next e x (joined (weave xs [])) (Around-weave e xs [] j h)
Around-weave e (x ∷ xs) (w ∷ ws) zero h =
    Around-left e w (x ∷ joined (weave xs ws))
    (record { before = []; behind = joined (weave xs ws); is = ap (λ v. v ∷ joined (weave xs ws)) (same-elem x e h) })
Around-weave e (x ∷ xs) (w ∷ ws) (suc j) h =
    Around-left e w (x ∷ joined (weave xs ws)) (Around-next e x (joined (weave xs ws)) (Around-weave e xs ws j h))

-- the parts of a node, joined, have each element of its run
pub Around-parts : (e : Elem) (shape : Shape) (run : List Elem) (ws : List (List Elem)) (j : ℕ) → slice_get run j ≡ Some e
    → Around e (joined (parts shape run ws))
Around-parts e Flat run ws j h = Around-items e run (map link ws) j h
Around-parts e (Post p) run ws j h = Around-items e run (map link ws) j h
Around-parts e (Ends p q) run ws j h = Around-between e run ws j h
Around-parts e Woven run ws j h = Around-weave e run ws j h

-- the walk of a node has each element of its run
pub Around-node : (s : List NodeKind) (e : Elem) (i k : ℕ) (run : List Elem) (ls : Trees) (j : ℕ) → slice_get run j ≡ Some e
    → Around e (walk s (node i k run ls done))
Around-node s e i k run ls j h =
    Around-right e (joined (parts (shape_at s k) run (walks s ls))) [] (Around-parts e (shape_at s k) run (walks s ls) j h)
