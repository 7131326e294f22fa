-- What stands at the links of a node, for the tests.
use Rattle.std.proofs.Common.{◌≡◌, ◌≤◌, ◌<◌, ◌+◌, ◌*◌, ◌++◌, ℕ, zero, suc, List, [], ◌∷◌, Option, Some, None, IsSome, IfSome, slice_index_or, refl, ap, ◌∙◌, sym, subst, arith}
use Rattle.std.specs.Option.{IsSomeAnd}
use Rattle.node_arena.specs.declared.elements.Elem.{Elem}
use Rattle.node_arena.specs.declared.elements.Structure.{Structure}
use Rattle.node_arena.specs.declared.elements.Top.{Top}
use Rattle.node_arena.specs.declared.elements.Top.TheVariants as tops
use Rattle.node_arena.specs.declared.kinds.NodeKind.{NodeKind}
use Rattle.node_arena.specs.Arenas.{NodeState, RunState, ArenaState, node_at, run_at}
use Rattle.node_arena.specs.Kinds.{kind_at}
use Rattle.node_arena.specs.Rules.{AreSound, HasSoundLinks}
use Rattle.node_arena.specs.Trees.{Trees, done, absent, node, roots, Stands, KeepsOutside}
use Rattle.node_arena.specs.Conforming.{RisesFrom, IsRising}
use Rattle.node_arena.specs.Structures.{Tree, empty, rooted, flat, top_of, links_of, HasRun}
use Rattle.node_arena.proofs.FramesLemmas.{Stands-outside, IsApart-done}
use Rattle.bulk_build.specs.Building.{IsBuilt, IsAsBefore}
use Rattle.bulk_build.specs.Layouts.{HasTree, HasTop, numbered, numbered_from}

-- the tree at a place of a row
pub tree-at : (a : ArenaState) (ls : Trees) (j : ℕ) → Stands a ls → HasTree a (slice_index_or (roots ls) j None)
tree-at a done j h = (absent done, (tt, refl))
tree-at a (absent t) zero h = (absent done, (tt, refl))
tree-at a (absent t) (suc j) h = tree-at a t j h
tree-at a (node i k run ls t) zero h = (node i k run ls done, ((h.0, h.1, tt), refl))
tree-at a (node i k run ls t) (suc j) h = tree-at a t j h.2

same-number : (i j : ℕ) (xs ys : List (Option ℕ)) → Some i ∷ xs ≡ Some j ∷ ys → i ≡ j
same-number i j xs ys e = let f : Some i ≡ Some j = cc (e) in cc

-- the node of a tree is there
pub tree-there : (a : ArenaState) (i : ℕ) → HasTree a (Some i) → IsSome (node_at a i)
tree-there a i h = by h.0 h.1.0 h.1.1
  where
    by : (t : Trees) → Stands a t → roots t ≡ Some i ∷ [] → IsSome (node_at a i)
    by done g e = cc
    by (absent t) g e = let f : None ≡ Some i = cc (e) in cc
    by (node j k run ls t) g e =
        let n : j ≡ i = same-number j i (roots t) [] e in
        subst (λ v. IsSome (node_at a v)) n (subst IsSome (sym g.0) refl)

-- and each of its links has a tree
pub tree-below : (a : ArenaState) (i j : ℕ) → HasTree a (Some i) → IfSome (node_at a i) (λ n. HasTree a (slice_index_or n.links j None))
tree-below a i j h = by h.0 h.1.0 h.1.1
  where
    by : (t : Trees) → Stands a t → roots t ≡ Some i ∷ [] → IfSome (node_at a i) (λ n. HasTree a (slice_index_or n.links j None))
    by done g e = cc
    by (absent t) g e = let f : None ≡ Some i = cc (e) in cc
    by (node m k run ls t) g e =
        let n : m ≡ i = same-number m i (roots t) [] e in
        subst (λ v. IfSome (node_at a v) (λ n. HasTree a (slice_index_or n.links j None))) n
        (subst (λ o. IfSome o (λ n. HasTree a (slice_index_or n.links j None))) (sym g.0) (tree-at a ls j g.1))

-- the same of a link that was read
pub tree-below-is : (a : ArenaState) (i j : ℕ) (link : Option ℕ) → HasTree a (Some i)
    → IfSome (node_at a i) (λ n. link ≡ slice_index_or n.links j None) → HasTree a link
tree-below-is a i j link h e = by (node_at a i) (tree-there a i h) (tree-below a i j h) e
  where
    by : (o : Option NodeState) → IsSome o → IfSome o (λ n. HasTree a (slice_index_or n.links j None))
        → IfSome o (λ n. link ≡ slice_index_or n.links j None) → HasTree a link
    by None s g e = cc
    by (Some n) s g e = subst (HasTree a) (sym e) g

-- ---- tops

-- what has been built stands
pub top-built : (s : List NodeKind) (k : ℕ) (a b : ArenaState) (es : List Elem) (st : Structure) → IsBuilt s k a b es st → HasTop b st.top
top-built s k a b es st h = by h.tree h.stands.top h.stands.nodes h.stands.run
  where
    some-run : (o : Option RunState) (run : List Elem) → IsSomeAnd o (λ r. r.elems ≡ run) → IsSome o
    some-run None run h = absurd h
    some-run (Some r) run h = refl

    by : (t : Tree) → st.top ≡ top_of t → Stands b (links_of t) → HasRun b t → HasTop b st.top
    by empty e g r = subst (HasTop b) (sym e) tt
    by (rooted i m run ls) e g r = subst (HasTop b) (sym e) (node i m run ls done, (g, refl))
    by (flat i run) e g r = subst (HasTop b) (sym e) (some-run (run_at b i) run r)

top-later : (b c : ArenaState) (top : Top) → KeepsOutside b c done → ((i : ℕ) → IsSome (run_at b i) → run_at c i ≡ run_at b i) → HasTop b top → HasTop c top
top-later b c tops.Empty f g h = tt
top-later b c (tops.Node i) f g h = (h.0, (Stands-outside b c done h.0 f (IsApart-done h.0) h.1.0, h.1.1))
top-later b c (tops.Run i) f g h = subst IsSome (sym (g i h)) h

-- what stood stands behind another build
pub top-kept : (s : List NodeKind) (k : ℕ) (b c : ArenaState) (es : List Elem) (st : Structure) (top : Top) → IsBuilt s k b c es st
    → HasTop b top → HasTop c top
top-kept s k b c es st top h = top-later b c top h.keeps.nodes (λ i g. h.keeps.runs i g tt)

-- and behind one that found no memory
pub top-same : (b c : ArenaState) (top : Top) → IsAsBefore b c → HasTop b top → HasTop c top
top-same b c top h = top-later b c top (λ i g v. h.nodes i) (λ i g. h.runs i)

-- ---- elements

numbered-more : (n k : ℕ) → numbered_from n k ++ numbered (n + k) ∷ [] ≡ numbered_from n (suc k)
numbered-more n zero = let e : n + 0 ≡ n = omega arith in ap (λ v. numbered v ∷ []) e
numbered-more n (suc k) =
    let e : n + suc k ≡ n + 1 + k = omega arith in
    ap (λ w. numbered n ∷ w) (ap (λ v. numbered_from (n + 1) k ++ numbered v ∷ []) e ∙ numbered-more (n + 1) k)

-- one more
pub numbered_snoc : (k : ℕ) → numbered_from 0 (k + 1) ≡ numbered_from 0 k ++ numbered k ∷ []
numbered_snoc k =
    let e : k + 1 ≡ suc k = omega arith in
    let f : 0 + k ≡ k = omega arith in
    ap (numbered_from 0) e ∙ sym (numbered-more 0 k) ∙ ap (λ v. numbered_from 0 k ++ numbered v ∷ []) f

-- they rise
numbered-rises : (m n k : ℕ) → m < 3 * n + 1 → RisesFrom m (numbered_from n k)
numbered-rises m n zero h = tt
numbered-rises m n (suc k) h = (h, numbered-rises (3 * n + 1) (n + 1) k (omega arith))

-- so the list rises
pub rising_of : (xs : List Elem) (k : ℕ) → xs ≡ numbered_from 0 k → IsRising xs
rising_of xs k e = subst IsRising (sym e) (from-start k)
  where
    from-start : (n : ℕ) → IsRising (numbered_from 0 n)
    from-start zero = tt
    from-start (suc n) = numbered-rises (3 * 0 + 1) (0 + 1) n (omega arith)

-- ---- kinds

module _ (all : List NodeKind) where
  -- a kind keeps the rules
  abbrev pub IsSoundKind : NodeKind → Type 0
  IsSoundKind kind = (1 ≤ kind.lo) × (kind.lo ≤ kind.hi) × (kind.hi ≤ 16) × HasSoundLinks all kind kind.shape

  -- each of these does
  abbrev pub AllSound : List NodeKind → Type 0
  AllSound [] = Unit {0}
  AllSound (k ∷ ks) = IsSoundKind k × AllSound ks

  sound-at : (ks : List NodeKind) (k : ℕ) → AllSound ks → IsSoundKind (kind_at ks k)
  sound-at [] k h = (omega arith, omega arith, omega arith, tt)
  sound-at (x ∷ ks) zero h = h.0
  sound-at (x ∷ ks) (suc k) h = sound-at ks k h.1

  -- so all together are sound
  pub sound-list : AllSound all → AreSound all
  sound-list h = record {
    some = λ k. (sound-at all k h).0;
    bounds = λ k. (sound-at all k h).1;
    few = λ k. (sound-at all k h).2;
    links = λ k. (sound-at all k h).3;
  }
