-- What has been built, as a structure.
use Rattle.std.proofs.Common.{◌≡◌, ◌≢◌, ◌≤◌, ℕ, List, [], ◌∷◌, length, Option, Some, None, IsSome, slice_index_or, refl, ap, ◌∙◌, sym, subst, arith}
use Rattle.std.specs.Option.{IsSomeAnd}
use Rattle.node_arena.specs.declared.elements.Elem.{Elem}
use Rattle.node_arena.specs.declared.elements.Structure.{Structure}
use Rattle.node_arena.specs.declared.elements.Top.TheVariants as tops
use Rattle.node_arena.specs.declared.kinds.NodeKind.{NodeKind}
use Rattle.node_arena.specs.declared.kinds.Shape.TheVariants.{Flat}
use Rattle.node_arena.specs.Arenas.{NodesState, ArenaState, node_at, run_at}
use Rattle.node_arena.specs.Kinds.{shape_at}
use Rattle.node_arena.specs.Trees.{Trees, done, absent, node, roots, Avoids}
use Rattle.node_arena.specs.Walks.{walk}
use Rattle.node_arena.specs.Conforming.{Hang, whole, IsRising, IsLevel, spine}
use Rattle.node_arena.specs.Structures.{empty, rooted, flat}
use Rattle.bulk_build.specs.Building.{IsBuilt}
use Rattle.bulk_build.specs.Layouts.{Adds, Builds, IsTop, top_at}
use Rattle.bulk_build.proofs.RowsLemmas.{hang-none}

-- no elements, nothing built
pub built-empty : (s : List NodeKind) (k : ℕ) (a : ArenaState) (es : List Elem) → length es ≡ 0
    → IsBuilt s k a a es (record { top = tops.Empty; len = 0; spine = 0 })
built-empty s k a [] e = record {
  tree = empty;
  stands = record { top = refl; nodes = tt; once = tt; run = tt; counted = refl };
  conforms = record { tree = tt; spine_kept = omega arith; spine_low = omega arith };
  walk_is = refl;
  spine_low = omega arith;
  keeps = record { nodes = λ i h v. refl; runs = λ i h v. refl };
  news = record { nodes = λ i h v. tt; runs = λ i h v. tt };
  other_nodes = λ i v. refl;
  other_runs = λ i v. refl;
}
built-empty s k a (x ∷ es) e = absurd (omega arith)

free-run : (a : ArenaState) (i j : ℕ) → IsSome (run_at a j) → run_at a i ≡ None → j ≢ i
free-run a i j h free e =
    let gone : run_at a j ≡ None = ap (run_at a) e ∙ free in
    let k = subst IsSome gone h in
    cc

-- a new flat run
pub built-flat : (s : List NodeKind) (k : ℕ) (a b : ArenaState) (es : List Elem) (i : ℕ) → shape_at s k ≡ Flat → 1 ≤ length es → IsRising es
    → run_at a i ≡ None → IsSomeAnd (run_at b i) (λ r. r.elems ≡ es) → ((other : ℕ) → other ≢ i → run_at b other ≡ run_at a other)
    → b.nodes ≡ a.nodes → IsBuilt s k a b es (record { top = tops.Run i; len = length es; spine = 0 })
built-flat s k a b es i e some rising free run others same = record {
  tree = flat i es;
  stands = record { top = refl; nodes = tt; once = tt; run = run; counted = refl };
  conforms = record { tree = (e, some, rising); spine_kept = omega arith; spine_low = omega arith };
  walk_is = refl;
  spine_low = omega arith;
  keeps = record {
    nodes = λ j h v. ap (λ (n : NodesState). slice_index_or n.slots j None) same;
    runs = λ j h v. others j (free-run a i j h free);
  };
  news = record { nodes = λ j h v. tt; runs = λ j h v. λ q. free-run a i j h free (sym q) };
  other_nodes = λ j v. ap (λ (n : NodesState). slice_index_or n.slots j None) same;
  other_runs = λ j v. others j (λ e. v (sym e));
}

-- a new tree of nodes
pub built-linked : (s : List NodeKind) (k : ℕ) (old a b : ArenaState) (es : List Elem) (root : Option ℕ) (st : Structure) → shape_at s k ≢ Flat
    → IsRising es → a.nodes.slots ≡ old.nodes.slots → a.runs ≡ old.runs → IsTop st root (length es) → Builds s (whole s k) a b es root
    → IsBuilt s k old b es st
built-linked s k old a b es root st linked rising slots runs top l = by l.tree l.root_is l.hangs l.level l.walk_is l.adds (l.spine_low st.spine top.above)
  where
    node-same : (i : ℕ) → node_at a i ≡ node_at old i
    node-same i = ap (λ n. slice_index_or n i None) slots

    some-old : (i : ℕ) → IsSome (node_at old i) → IsSome (node_at a i)
    some-old i h = subst IsSome (sym (node-same i)) h

    first : (x y : Option ℕ) (xs ys : List (Option ℕ)) → x ∷ xs ≡ y ∷ ys → y ≡ x
    first x y xs ys e = cc

    by : (t : Trees) → roots t ≡ root ∷ [] → Hang s (whole s k ∷ []) t → IsLevel s t → walk s t ≡ es → Adds a b t → spine s t ≤ st.spine
        → IsBuilt s k old b es st
    by done e h v w ad sp = cc
    by (absent rest) e h v w ad sp =
        let none : rest ≡ done = hang-none s rest h.1 in
        let nothing : [] ≡ es = ap (walk s) (sym none) ∙ w in
        let zero_long : 0 ≡ length es = ap length nothing in
        let at_none : root ≡ None = first None root (roots rest) [] e in
        let counted : 0 ≡ st.len = zero_long ∙ sym top.counted in
        let few = top.few in
        record {
          tree = empty;
          stands = record { top = top.top ∙ ap top_at at_none; nodes = tt; once = tt; run = tt; counted = counted };
          conforms = record { tree = tt; spine_kept = omega arith; spine_low = omega arith };
          walk_is = nothing;
          spine_low = top.least;
          keeps = record {
            nodes = λ i h v. ad.keeps i (some-old i h) tt ∙ node-same i;
            runs = λ i h v. ap (λ r. slice_index_or r.slots i None) (ad.runs ∙ runs);
          };
          news = record { nodes = λ i h v. tt; runs = λ i h v. tt };
          other_nodes = λ i v. ad.others i (subst (Avoids i) (sym none) tt) ∙ node-same i;
          other_runs = λ i v. ap (λ r. slice_index_or r.slots i None) (ad.runs ∙ runs);
        }
    by (node i m run ls rest) e h v w ad sp =
        let none : rest ≡ done = hang-none s rest h.4 in
        whole-node rest none e h v w ad sp
      where
        whole-node : (u : Trees) → u ≡ done → Some i ∷ roots u ≡ root ∷ [] → Hang s (whole s k ∷ []) (node i m run ls u) → IsLevel s (node i m run ls u)
            → walk s (node i m run ls u) ≡ es → Adds a b (node i m run ls u) → spine s (node i m run ls u) ≤ st.spine → IsBuilt s k old b es st
        whole-node done none e h v w ad sp =
            let at_some : root ≡ Some i = first (Some i) root [] [] e in
            let counted : length (walk s (node i m run ls done)) ≡ st.len = ap length w ∙ sym top.counted in
            let few = top.few in
            record {
              tree = rooted i m run ls;
              stands = record { top = top.top ∙ ap top_at at_some; nodes = ad.stands; once = ad.once; run = tt; counted = counted };
              conforms = record {
                tree = (linked, record { hangs = h; level = v; low = omega arith; rising = subst IsRising (sym w) rising });
                spine_kept = sp;
                spine_low = omega arith;
              };
              walk_is = w;
              spine_low = top.least;
              keeps = record {
                nodes = λ j h v. ad.keeps j (some-old j h) tt ∙ node-same j;
                runs = λ j h v. ap (λ r. slice_index_or r.slots j None) (ad.runs ∙ runs);
              };
              news = record { nodes = λ j h v. ad.news j (some-old j h) tt; runs = λ j h v. tt };
              other_nodes = λ j v. ad.others j v ∙ node-same j;
              other_runs = λ j v. ap (λ r. slice_index_or r.slots j None) (ad.runs ∙ runs);
            }
        whole-node (absent u) none e h v w ad sp = cc
        whole-node (node j n r l u) none e h v w ad sp = cc
