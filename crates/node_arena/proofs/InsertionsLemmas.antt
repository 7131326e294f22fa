-- Trees and structures with elements put in: they conform as before.
use Rattle.std.proofs.Common.{◌≡◌, ◌≤◌, ◌+◌, ℕ, List, [], ◌∷◌, length, Option, Some, refl, ap, ◌∙◌, sym, subst, arith}
use Rattle.std.specs.Option.{IsSomeAnd}
use Rattle.node_arena.specs.declared.elements.Elem.{Elem}
use Rattle.node_arena.specs.declared.elements.Structure.{Structure}
use Rattle.node_arena.specs.declared.elements.Top.TheVariants as tops
use Rattle.node_arena.specs.declared.kinds.NodeKind.{NodeKind}
use Rattle.node_arena.specs.Arenas.{RunState, ArenaState, ChangesRun}
use Rattle.node_arena.specs.Conforming.{Hang, whole, IsLevel, spine, IsRising, Conform}
use Rattle.node_arena.specs.Insertions.{put_in, Lacks, PutsIn, IsPutIn}
use Rattle.node_arena.specs.Passing.{AllLack, PutsAt}
use Rattle.node_arena.specs.Structures.{rooted, flat, IsStanding, IsConforming}
use Rattle.node_arena.specs.Trees.{Trees, done, absent, node, roots}
use Rattle.node_arena.specs.Walks.{walk}
use Rattle.node_arena.proofs.ChangesLemmas.{ChangesOnlyTree-nodes, ChangesOnlyTree-run}
use Rattle.node_arena.proofs.PutInLemmas.{length-put_in, IsRising-put_in, IsRising-all_put_in}

head-same : (x y : Option ℕ) (xs ys : List (Option ℕ)) → x ∷ xs ≡ y ∷ ys → x ≡ y
head-same x y xs ys e = cc

tail-same : (x y : Option ℕ) (xs ys : List (Option ℕ)) → x ∷ xs ≡ y ∷ ys → xs ≡ ys
tail-same x y xs ys e = cc

number-same : (i j : ℕ) → Some i ≡ Some j → i ≡ j
number-same i j e = cc

-- ---- trees

-- what has become another tree with elements put in, where that isn't too deep, conforms as before
pub Conform-PutsIn : (s : List NodeKind) (k : ℕ) (a b : ArenaState) (xs : List Elem) (t u : Trees) → PutsIn s a b xs t u → Conform s k t → spine s u ≤ 96
    → IsRising xs → AllLack xs (walk s t) → Conform s k u
Conform-PutsIn s k a b xs t u p c low up lack = record {
  hangs = p.hangs k c.hangs;
  level = p.level c.level;
  low = low;
  rising = subst IsRising (sym p.walk_is) (IsRising-all_put_in xs (walk s t) up c.rising lack);
}

-- the same at a link of this kind, which may have been empty
pub Conform-PutsAt : (s : List NodeKind) (k : ℕ) (a b : ArenaState) (xs : List Elem) (t u : Trees) → PutsAt s k a b xs t u → Conform s k t → spine s u ≤ 96
    → IsRising xs → AllLack xs (walk s t) → Conform s k u
Conform-PutsAt s k a b xs t u p c low up lack = record {
  hangs = p.hangs;
  level = p.level;
  low = low;
  rising = subst IsRising (sym p.walk_is) (IsRising-all_put_in xs (walk s t) up c.rising lack);
}

-- what is put into a tree that hangs at a link is put in there
pub PutsAt-PutsIn : (s : List NodeKind) (k : ℕ) (a b : ArenaState) (xs : List Elem) (t u : Trees) → PutsIn s a b xs t u → Hang s (whole s k ∷ []) t
    → IsLevel s t → PutsAt s k a b xs t u
PutsAt-PutsIn s k a b xs t u p hang level = record {
  stands = p.stands;
  once = p.once;
  hangs = p.hangs k hang;
  level = p.level level;
  spine_low = p.spine_low;
  walk_is = p.walk_is;
  only = p.only;
}

-- ---- structures

module _ (s : List NodeKind) (k : ℕ) (a b : ArenaState) (x : Elem) (st new : Structure) where
  put-node : (i m : ℕ) (run : List Elem) (ls : Trees) (j n : ℕ) (run' : List Elem) (ls' : Trees) → b.runs ≡ a.runs
      → IsStanding s a st (rooted i m run ls) → IsConforming s k st (rooted i m run ls) → Lacks x.at (walk s (node i m run ls done))
      → PutsIn s a b (x ∷ []) (node i m run ls done) (node j n run' ls' done)
      → new.top ≡ tops.Node j → new.len ≡ st.len + 1 → spine s (node j n run' ls' done) ≤ new.spine → new.spine ≤ 96
      → IsPutIn s k a b x (rooted i m run ls) new
  put-node i m run ls j n run' ls' runs h c lacks p top len kept low =
      let old = walk s (node i m run ls done) in
      let is : walk s (node j n run' ls' done) ≡ put_in x old = p.walk_is in
      let one : length (put_in x old) ≡ length old + 1 = length-put_in x old in
      let count : length old ≡ st.len = h.counted in
      let conform : Conform s k (node j n run' ls' done) =
      Conform-PutsIn s k a b (x ∷ []) (node i m run ls done) (node j n run' ls' done) p c.tree.1 (omega arith) tt (lacks, tt) in
      record {
        tree = rooted j n run' ls';
        stands = record { top = top; nodes = p.stands; once = p.once; run = tt; counted = ap length is ∙ one ∙ ap (λ v. v + 1) count ∙ sym len };
        conforms = record { tree = (c.tree.0, conform); spine_kept = kept; spine_low = low };
        walk_is = is;
        only = ChangesOnlyTree-nodes a b (rooted i m run ls) (rooted j n run' ls') p.only runs (λ r. tt) (λ r. tt);
      }

  -- a node's structure has x put in, where its tree has, and the new structure names the new root
  pub IsPutIn-node : (i m : ℕ) (run : List Elem) (ls : Trees) (j : ℕ) (u : Trees) → b.runs ≡ a.runs
      → IsStanding s a st (rooted i m run ls) → IsConforming s k st (rooted i m run ls) → Lacks x.at (walk s (node i m run ls done))
      → PutsIn s a b (x ∷ []) (node i m run ls done) u → roots u ≡ Some j ∷ []
      → new.top ≡ tops.Node j → new.len ≡ st.len + 1 → spine s u ≤ new.spine → new.spine ≤ 96
      → IsPutIn s k a b x (rooted i m run ls) new
  IsPutIn-node i m run ls j done runs h c lacks p root top len kept low = cc
  IsPutIn-node i m run ls j (absent u) runs h c lacks p root top len kept low = let first = head-same _ _ _ _ root in cc
  IsPutIn-node i m run ls j (node g n run' ls' done) runs h c lacks p root top len kept low =
      let same : g ≡ j = number-same g j (head-same _ _ _ _ root) in
      put-node i m run ls g n run' ls' runs h c lacks p (top ∙ ap tops.Node (sym same)) len kept low
  IsPutIn-node i m run ls j (node g n run' ls' (absent u)) runs h c lacks p root top len kept low = let rest = tail-same _ _ _ _ root in cc
  IsPutIn-node i m run ls j (node g n run' ls' (node f o run2 ls2 u)) runs h c lacks p root top len kept low = let rest = tail-same _ _ _ _ root in cc

  -- a flat run has x put in
  pub IsPutIn-run : (i : ℕ) (run : List Elem) (r : RunState) → IsStanding s a st (flat i run) → IsConforming s k st (flat i run) → Lacks x.at run
      → ChangesRun a b i (Some r) → r.elems ≡ put_in x run → new.top ≡ tops.Run i → new.len ≡ st.len + 1 → new.spine ≤ 96
      → IsPutIn s k a b x (flat i run) new
  IsPutIn-run i run r h c lacks change is top len low =
      let one : length (put_in x run) ≡ length run + 1 = length-put_in x run in
      let count : length run ≡ st.len = h.counted in
      let some : 1 ≤ length (put_in x run) = omega arith in
      record {
        tree = flat i (put_in x run);
        stands = record {
          top = top;
          nodes = tt;
          once = tt;
          run = subst (λ o. IsSomeAnd o (λ q. q.elems ≡ put_in x run)) (sym change.run.changed) is;
          counted = one ∙ ap (λ v. v + 1) count ∙ sym len;
        };
        conforms = record { tree = (c.tree.0, some, IsRising-put_in x run c.tree.2 lacks); spine_kept = omega arith; spine_low = low };
        walk_is = refl;
        only = ChangesOnlyTree-run a b i run (put_in x run) (Some r) change;
      }
