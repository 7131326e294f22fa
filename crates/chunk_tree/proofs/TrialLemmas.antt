-- What the tests keep, for them alone.
use Rattle.std.proofs.Common.{◌≡◌, ◌≢◌, ◌≤◌, ◌<◌, ◌+◌, ◌-◌, ◌/◌, inl, inr, ℕ, max, zero, suc, Bool, true, false, List, [], ◌∷◌, ◌++◌, length, take, drop, get_or, Option, Some, None, IsSome, IsSomeAnd, IfSome, append-nil, refl, ap, ◌∙◌, sym, subst, arith}
use Rattle.std.proofs.lemmas.List.{take-append-le, take_all}
use Rattle.std.specs.List.{slice_set}
use Rattle.node_arena.specs.declared.elements.Elem.{Elem}
use Rattle.node_arena.specs.declared.elements.Side.{Side}
use Rattle.node_arena.specs.declared.elements.Side.TheVariants as sides
use Rattle.node_arena.specs.declared.elements.Step.{Step}
use Rattle.node_arena.specs.declared.elements.Step.TheVariants.{Done, Pass}
use Rattle.node_arena.specs.declared.elements.Structure.{Structure}
use Rattle.node_arena.specs.declared.elements.Top.TheVariants as tops
use Rattle.node_arena.specs.declared.kinds.NodeKind.{NodeKind}
use Rattle.node_arena.specs.declared.kinds.Shape.TheVariants.{Flat, Ends}
use Rattle.node_arena.specs.Arenas.{ArenaState, node_at, ChangesNode}
use Rattle.node_arena.specs.Conforming.{Hang, whole, places, least_of, IsRising, spine}
use Rattle.node_arena.specs.Kinds.{kind_at, shape_at}
use Rattle.node_arena.specs.Rules.{AreSound, Serves, HasSoundLinks}
use Rattle.node_arena.specs.Structures.{Tree, empty, rooted, flat, links_of, top_of, walk_of, IsStanding, IsConforming, ConformTree}
use Rattle.node_arena.specs.Trees.{Trees, done, absent, node, roots, stored, Stands}
use Rattle.node_arena.specs.Walks.{walk}
use Rattle.node_arena.specs.Insertions.{Lacks, IsPutIn}
use Rattle.node_arena.specs.Passing.{CanPutIn, IsDone, Leaves, LinkPlace, link_at, discipline}
use Rattle.node_arena.proofs.InsertionsLemmas.{IsPutIn-node}
use Rattle.node_arena.proofs.PutInLemmas.{Lacks-put_in}
use Rattle.chunk_tree.specs.Balancing.{IsRebalanced}
use Rattle.chunk_tree.specs.Relinking.{root_at}
use Rattle.chunk_tree.specs.Trials.{IsChunks, IsGrown, spine_after, IsRooted, mixed_kinds}
use Rattle.chunk_tree.specs.Ways.{HasTwoLinks, has_two_links}
use Rattle.chunk_tree.proofs.Behind.{leaf_of, leaf-walk}
use Rattle.chunk_tree.proofs.Options.{and_known}
use Rattle.chunk_tree.proofs.Pairs.{spine-ends, level-ends, walk-two}

-- ---- nodes that are reached

hung : (a : ArenaState) (c p : ℕ) (t : Trees) → Stands a t → get_or (roots t) p None ≡ Some c → IsRooted a c × IsSome (node_at a c)
hung a c p done h e = cc
hung a c zero (absent t) h e = cc
hung a c (suc p) (absent t) h e = hung a c p t h e
hung a c zero (node i k run ls t) h e =
    let same : i ≡ c = cc (e) in
    subst (λ n. IsRooted a n × IsSome (node_at a n)) same
    (record { trees = node i k run ls done; roots_are = refl; stands = (h.0, h.1, tt) }, subst IsSome (sym h.0) refl)
hung a c (suc p) (node i k run ls t) h e = hung a c p t h.2 e

child-of : (a : ArenaState) (i c p : ℕ) (t : Trees) → roots t ≡ Some i ∷ [] → Stands a t → IfSome (node_at a i) (λ n. Some c ≡ get_or n.links p None)
    → IsRooted a c × IsSome (node_at a c)
child-of a i c p done r h e = cc
child-of a i c p (absent t) r h e = cc
child-of a i c p (node j k run ls t) r h e =
    let same : j ≡ i = cc (r) in
    let at : IfSome (node_at a j) (λ n. Some c ≡ get_or n.links p None) =
    subst (λ m. IfSome (node_at a m) (λ n. Some c ≡ get_or n.links p None)) (sym same) e in
    hung a c p ls h.1 (sym (subst (λ o. IfSome o (λ n. Some c ≡ get_or n.links p None)) h.0 at))

-- what is linked from a node that stands stands
pub link-rooted : (a : ArenaState) (i p : ℕ) (l : Option ℕ) → IsRooted a i → IfSome (node_at a i) (λ n. l ≡ get_or n.links p None)
    → IfSome l (IsRooted a) × IfSome l (λ c. IsSome (node_at a c))
link-rooted a i p None r e = (tt, tt)
link-rooted a i p (Some c) r e = child-of a i c p r.trees r.roots_are r.stands e

top-of : (a : ArenaState) (t : Tree) → Stands a (links_of t) → IfSome (root_at (top_of t)) (IsRooted a) × IfSome (root_at (top_of t))
    (λ i. IsSome (node_at a i))
top-of a empty h = (tt, tt)
top-of a (flat i run) h = (tt, tt)
top-of a (rooted i k run ls) h = (record { trees = node i k run ls done; roots_are = refl; stands = h }, subst IsSome (sym h.0) refl)

-- the root of a structure stands
pub top-rooted : (s : List NodeKind) (a : ArenaState) (st : Structure) (free : List Bool) (more : ℕ) → IsGrown s a st free more
    → IfSome (root_at st.top) (IsRooted a) × IfSome (root_at st.top) (λ i. IsSome (node_at a i))
top-rooted s a st free more g =
    subst (λ q. IfSome (root_at q) (IsRooted a) × IfSome (root_at q) (λ i. IsSome (node_at a i))) (sym g.holds.stands.top)
    (top-of a g.tree g.holds.stands.nodes)

-- ---- the one kind

abbrev chunk : ℕ → NodeKind
chunk hi = record { lo = 1; hi = hi; shape = Ends 0 0 }

-- the kind keeps the rules, and no other does anything
pub chunks-kind : (hi : ℕ) → 1 ≤ hi → hi ≤ 16 → IsChunks (record { lo = 1; hi = hi; shape = Ends 0 0 } ∷ [])
chunks-kind hi some few = record { sound = record { some = low; bounds = bound; few = most; links = link }; shape = refl; others = λ k. refl }
  where
    low : (k : ℕ) → 1 ≤ (kind_at (chunk hi ∷ []) k).lo
    low zero = omega arith
    low (suc k) = omega arith

    bound : (k : ℕ) → (kind_at (chunk hi ∷ []) k).lo ≤ (kind_at (chunk hi ∷ []) k).hi
    bound zero = some
    bound (suc k) = omega arith

    most : (k : ℕ) → (kind_at (chunk hi ∷ []) k).hi ≤ 16
    most zero = few
    most (suc k) = omega arith

    half : (hi + 1) / 2 ≤ hi
    half = omega arith

    link : (k : ℕ) → HasSoundLinks (chunk hi ∷ []) (kind_at (chunk hi ∷ []) k) (shape_at (chunk hi ∷ []) k)
    link zero = (refl, omega arith, (λ e. cc), (omega arith, inr (refl, half)))
    link (suc k) = tt

-- its runs fit into the arena's nodes
pub serves-kind : (hi : ℕ) (a : ArenaState) → 1 ≤ hi → hi ≤ a.nodes.most → Serves (record { lo = 1; hi = hi; shape = Ends 0 0 } ∷ []) a
serves-kind hi a some most zero = most
serves-kind hi a some most (suc k) = omega arith

own-kind : (l : LinkPlace) (side : Side) → link_at (Ends 0 0) side ≡ Some l → l.kind ≡ 0
own-kind l sides.Pre e = let same : record { place = 0; kind = 0 } ≡ l = cc (e) in ap (λ (v : LinkPlace). v.kind) (sym same)
own-kind l sides.Post e = let same : record { place = 1; kind = 0 } ≡ l = cc (e) in ap (λ (v : LinkPlace). v.kind) (sym same)

links-own : (s : List NodeKind) → IsChunks s → (k : ℕ) (side : Side) (l : LinkPlace) → link_at (shape_at s k) side ≡ Some l
    → discipline (shape_at s l.kind) ≡ discipline (shape_at s k)
links-own s h zero side l e =
    ap (λ m. discipline (shape_at s m)) (own-kind l side (subst (λ sh. link_at sh side ≡ Some l) h.shape e))
links-own s h (suc k) side l e = let none : link_at Flat side ≡ Some l = subst (λ sh. link_at sh side ≡ Some l) (h.others k) e in cc

-- nothing is passed on
pub record IsPut (s : List NodeKind) (a b : ArenaState) (x : Elem) (t : Trees) (kept : ℕ) (step : Step) : Type 0 where
  pub deep : Option ℕ
  pub is : IsDone s a b x t deep
  pub enough : spine s is.tree ≤ spine_after kept step
  pub low : spine_after kept step ≤ 96

-- and the kept spine is enough
pub is-put : (s : List NodeKind) (a b : ArenaState) (x : Elem) (t : Trees) (step : Step) (n m kept : ℕ) → IsChunks s → Leaves s a b x t step n m
    → spine s t ≤ kept → kept ≤ 95 → IsPut s a b x t kept step
is-put s a b x t (Done None) n m kept h d low few =
    let p = d.puts.spine_low in
    record { deep = None; is = d; enough = omega arith; low = omega arith }
is-put s a b x t (Done (Some k)) n m kept h d low few =
    let p = d.puts.spine_low in
    let e : spine s d.tree ≡ max (spine s t) k = d.goes.deepens in
    record { deep = Some k; is = d; enough = omega arith; low = omega arith }
is-put s a b x t (Pass i side xs above) n m kept h d low few =
    absurd (d.on.other (links-own s h d.on.passer.kind side d.on.link d.on.has_link))

-- ---- structures that grow

-- an empty structure lacks all
pub grown-empty : (s : List NodeKind) (a : ArenaState) (st : Structure) (free : List Bool) (more : ℕ) → st ≡ record { top = tops.Empty; len = 0; spine = 0 }
    → Serves s a → more ≤ a.nodes.spare → more < 4095 → IsGrown s a st free more
grown-empty s a st free more e serves spare few = subst (λ q. IsGrown s a q free more) (sym e) (record {
  tree = empty;
  holds = record {
    stands = record { top = refl; nodes = tt; once = tt; run = tt; counted = refl };
    conforms = record { tree = tt; spine_kept = omega arith; spine_low = omega arith };
  };
  lacks = λ n f. tt;
  serves = serves;
  spare = spare;
  few = omega arith;
})

-- fewer are still to come
pub grown-less : (s : List NodeKind) (a : ArenaState) (st : Structure) (free : List Bool) (more less : ℕ) → less ≤ more → IsGrown s a st free more
    → IsGrown s a st free less
grown-less s a st free more less l g = record {
  tree = g.tree;
  holds = g.holds;
  lacks = g.lacks;
  serves = g.serves;
  spare = omega (arith, g.spare);
  few = omega (arith, g.few);
}

-- a structure that was rebalanced has the same elements
pub grown-rebalanced : (s : List NodeKind) (a b : ArenaState) (st new : Structure) (free : List Bool) (more : ℕ) → (g : IsGrown s a st free more)
    → IsRebalanced s 0 a b st g.tree new → b.nodes.most ≡ a.nodes.most → b.nodes.spare ≡ a.nodes.spare → IsGrown s b new free more
grown-rebalanced s a b st new free more g r most spare = record {
  tree = r.tree;
  holds = r.holds;
  lacks = λ n f. subst (Lacks n) (sym r.walk_is) (g.lacks n f);
  serves = λ k. subst (λ m. (kind_at s k).hi ≤ m) (sym most) (g.serves k);
  spare = omega (arith, g.spare);
  few = let e = r.len_is in omega (arith, g.few);
}

free-set : (free : List Bool) (at n : ℕ) → at < length free → get_or (slice_set free at false) n false ≡ true → (at ≢ n) × (get_or free n false ≡ true)
free-set [] at n l e = absurd (omega arith)
free-set (b ∷ free) zero zero l e = let f : false ≡ true = e in cc
free-set (b ∷ free) zero (suc n) l e = ((λ f. cc), e)
free-set (b ∷ free) (suc at) zero l e = ((λ f. cc), e)
free-set (b ∷ free) (suc at) (suc n) l e =
    let r = free-set free at n (omega arith) e in
    ((λ f. r.0 (omega arith)), r.1)

not-flat : (s : List NodeKind) → IsChunks s → shape_at s 0 ≢ Flat
not-flat s h e = let z : Ends 0 0 ≡ Flat = sym h.shape ∙ e in cc

empty-by : (s : List NodeKind) (t : Tree) → ConformTree s 0 t → shape_at s 0 ≢ Flat → root_at (top_of t) ≡ None → t ≡ empty
empty-by s empty c f e = refl
empty-by s (rooted i k run ls) c f e = cc
empty-by s (flat i run) c f e = absurd (f c.0)

leaf-hangs : (s : List NodeKind) → IsChunks s → (j : ℕ) (x : Elem) → Hang s (whole s 0 ∷ []) (leaf_of j 0 x)
leaf-hangs s h j x =
    let rule : HasSoundLinks s (kind_at s 0) (Ends 0 0) = subst (HasSoundLinks s (kind_at s 0)) h.shape (h.sound.links 0) in
    let least : (whole s 0).least ≤ 1 = subst (λ sh. least_of (kind_at s 0) sh ≤ 1) (sym h.shape) (omega (arith, rule.0)) in
    let high : 1 ≤ (kind_at s 0).hi = omega (arith, h.sound.some 0, h.sound.bounds 0) in (
      refl,
      omega arith,
      omega arith,
      subst (λ sh. Hang s (places s sh 0 (x ∷ []) (absent (absent done))) (absent (absent done))) (sym h.shape)
          (refl, (refl, refl)),
      refl,
    )

-- the first element
pub grown-first : (s : List NodeKind) (a b : ArenaState) (st : Structure) (free : List Bool) (more : ℕ) (x : Elem) (at j : ℕ) → IsChunks s → x.at ≡ at
    → at < length free
    → 0 < more → (g : IsGrown s a st free more) → root_at st.top ≡ None → node_at a j ≡ None
    → ChangesNode a b j (Some (record { kind = 0; run = x ∷ []; links = None ∷ None ∷ [] })) → b.nodes.spare + 1 ≡ a.nodes.spare
    → IsGrown s b (record { top = tops.Node j; len = 1; spine = 1 }) (slice_set free at false) (more - 1)
grown-first s a b st free more x at j h same l some g none new c spare =
    let e : g.tree ≡ empty = empty-by s g.tree g.holds.conforms.tree (not-flat s h) (subst (λ v. root_at v ≡ None) g.holds.stands.top none) in
    let two : has_two_links (shape_at s 0) ≡ true = ap has_two_links h.shape in
    let sp : spine s (leaf_of j 0 x) ≡ 1 + 0 = spine-ends s j 0 0 0 (x ∷ []) (absent (absent done)) h.shape in
    let len : length (walk s (leaf_of j 0 x)) ≡ 1 = ap length (leaf-walk s x 0 j h.sound two) in
    record {
      tree = rooted j 0 (x ∷ []) (absent (absent done));
      holds = record {
        stands = record { top = refl; nodes = (c.node.changed, tt, tt); once = (tt, tt, tt, tt, tt); run = tt; counted = len };
        conforms = record {
          tree = (
            not-flat s h,
            record {
              hangs = leaf-hangs s h j x;
              level = (level-ends s 0 0 0 (absent (absent done)) h.shape, tt, tt);
              low = omega arith;
              rising = subst IsRising (sym (leaf-walk s x 0 j h.sound two)) tt;
            },
          );
          spine_kept = omega arith;
          spine_low = omega arith;
        };
      };
      lacks = λ n f. let q = free-set free at n l f in subst (Lacks n) (sym (leaf-walk s x 0 j h.sound two)) ((λ z. q.0 (sym same ∙ z)), tt);
      serves = λ k. subst (λ m. (kind_at s k).hi ≤ m) (sym c.node.most) (g.serves k);
      spare = omega (arith, g.spare);
      few = omega (arith, g.few);
    }

-- ---- one element more

-- the structure begins at this node
pub record Rooted (s : List NodeKind) (t : Tree) (root : ℕ) : Type 0 where
  pub run : List Elem
  pub links : Trees
  pub is : t ≡ rooted root 0 run links

rooted-by : (s : List NodeKind) (t : Tree) (root : ℕ) → ConformTree s 0 t → root_at (top_of t) ≡ Some root → Rooted s t root
rooted-by s empty root c e = cc
rooted-by s (rooted i k run ls) root c e =
    let same : i ≡ root = cc (e) in
    record { run = run; links = ls; is = ap (λ n. rooted n k run ls) same ∙ ap (λ m. rooted root m run ls) c.1.hangs.0 }
rooted-by s (flat i run) root c e = cc

module _ (s : List NodeKind) (a : ArenaState) (st : Structure) (free : List Bool) (more : ℕ) (root : ℕ) (h : IsChunks s) (g : IsGrown s a st free more)
    (top : root_at st.top ≡ Some root) where
  -- the node at which it begins
  pub the-root : Rooted s g.tree root
  the-root = rooted-by s g.tree root g.holds.conforms.tree (subst (λ v. root_at v ≡ Some root) g.holds.stands.top top)

  root-stands : IsStanding s a st (rooted root 0 the-root.run the-root.links)
  root-stands = subst (IsStanding s a st) the-root.is g.holds.stands

  root-conforms : IsConforming s 0 st (rooted root 0 the-root.run the-root.links)
  root-conforms = subst (IsConforming s 0 st) the-root.is g.holds.conforms

  -- the tree into which an element may go
  pub can-put : (x : Elem) (at : ℕ) → x.at ≡ at → get_or free at false ≡ true → CanPutIn s a x root (node root 0 the-root.run the-root.links done)
  can-put x at same is_free = record {
    kind = 0;
    run = the-root.run;
    links = the-root.links;
    is = refl;
    stands = root-stands.nodes;
    once = root-stands.once;
    conforms = root-conforms.tree.1;
    lacks = subst (λ n. Lacks n (walk s (node root 0 the-root.run the-root.links done))) (sym same)
        (subst (λ t. Lacks at (walk_of s t)) the-root.is (g.lacks at is_free));
  }

  pub two-links : IsSomeAnd (node_at a root) (λ n. HasTwoLinks (shape_at s n.kind))
  two-links = and_known (node_at a root) (λ n. HasTwoLinks (shape_at s n.kind)) (stored 0 the-root.run the-root.links) root-stands.nodes.0
      (ap has_two_links h.shape)

  pub grown-next : (b : ArenaState) (new : Structure) (x : Elem) (at : ℕ) (step : Step) (n m : ℕ) → x.at ≡ at → get_or free at false ≡ true
      → at < length free → 0 < more → st.spine ≤ 95
      → ((t : Trees) → CanPutIn s a x root t → Leaves s a b x t step n m) → b.runs ≡ a.runs → b.nodes.most ≡ a.nodes.most → a.nodes.spare ≤ b.nodes.spare + 1
      → new ≡ record { top = tops.Node root; len = st.len + 1; spine = spine_after st.spine step } → IsGrown s b new (slice_set free at false) (more - 1)
  grown-next b new x at step n m same is_free l some low left runs most spare is =
      let can = can-put x at same is_free in
      let kept : spine s (node root 0 the-root.run the-root.links done) ≤ st.spine = root-conforms.spine_kept in
      let put = is-put s a b x (node root 0 the-root.run the-root.links done) step n m st.spine h
      (left (node root 0 the-root.run the-root.links done) can) kept low in
      let d = put.is in
      let top_is = ap (λ (v : Structure). v.top) is in
      let len_is = ap (λ (v : Structure). v.len) is in
      let spine_is : new.spine ≡ spine_after st.spine step = ap (λ (v : Structure). v.spine) is in
      let p : IsPutIn s 0 a b x (rooted root 0 the-root.run the-root.links) new =
      IsPutIn-node s 0 a b x st new root 0 the-root.run the-root.links root d.tree runs root-stands root-conforms can.lacks d.puts d.same_root top_is
      len_is (omega (arith, spine_is, put.enough)) (omega (arith, spine_is, put.low)) in
      record {
        tree = p.tree;
        holds = record { stands = p.stands; conforms = p.conforms };
        lacks = λ k f.
            let q = free-set free at k l f in
            subst (Lacks k) (sym p.walk_is) (Lacks-put_in k x (walk s (node root 0 the-root.run the-root.links done)) (λ z. q.0 (sym same ∙ z))
            (subst (λ t. Lacks k (walk_of s t)) the-root.is (g.lacks k q.1)));
        serves = λ k. subst (λ m. (kind_at s k).hi ≤ m) (sym most) (g.serves k);
        spare = omega (arith, g.spare);
        few = omega (arith, g.few);
      }

-- ---- a node alone, of a kind with links to other kinds

-- a node without anything at its links, into which an element may go
pub can-put-alone : (s : List NodeKind) (b : ArenaState) (x : Elem) (j p q : ℕ) (run : List Elem) → AreSound s → shape_at s 0 ≡ Ends p q → 1 ≤ length run
    → length run ≤ (kind_at s 0).hi → IsRising run → Lacks x.at run → node_at b j ≡ Some (record { kind = 0; run = run; links = None ∷ None ∷ [] })
    → CanPutIn s b x j (node j 0 run (absent (absent done)) done)
can-put-alone s b x j p q run sound e low high up lacks there =
    let rule : HasSoundLinks s (kind_at s 0) (Ends p q) = subst (HasSoundLinks s (kind_at s 0)) e (sound.links 0) in
    let least : (whole s 0).least ≤ 1 = subst (λ sh. least_of (kind_at s 0) sh ≤ 1) (sym e) (omega (arith, rule.0)) in
    let sp : spine s (node j 0 run (absent (absent done)) done) ≡ 1 + 0 = spine-ends s j 0 p q run (absent (absent done)) e in
    let w : walk s (node j 0 run (absent (absent done)) done) ≡ run = walk-two s j 0 p q run (absent done) (absent done) e refl ∙ append-nil run in
    record {
      kind = 0;
      run = run;
      links = absent (absent done);
      is = refl;
      stands = (there, tt, tt);
      once = (tt, tt, tt, tt, tt);
      conforms = record {
        hangs = (
          refl,
          omega arith,
          high,
          subst (λ sh. Hang s (places s sh 0 run (absent (absent done))) (absent (absent done))) (sym e) (refl, (refl, refl)),
          refl,
        );
        level = (level-ends s 0 p q (absent (absent done)) e, tt, tt);
        low = omega arith;
        rising = subst IsRising (sym w) up;
      };
      lacks = subst (Lacks x.at) (sym w) lacks;
    }

-- ---- kinds with links to others

-- the kinds keep the rules
pub mixed-sound : AreSound mixed_kinds
mixed-sound = record { some = low; bounds = bound; few = most; links = link }
  where
    low : (k : ℕ) → 1 ≤ (kind_at mixed_kinds k).lo
    low zero = omega arith
    low (suc zero) = omega arith
    low (suc (suc zero)) = omega arith
    low (suc (suc (suc k))) = omega arith

    bound : (k : ℕ) → (kind_at mixed_kinds k).lo ≤ (kind_at mixed_kinds k).hi
    bound zero = omega arith
    bound (suc zero) = omega arith
    bound (suc (suc zero)) = omega arith
    bound (suc (suc (suc k))) = omega arith

    most : (k : ℕ) → (kind_at mixed_kinds k).hi ≤ 16
    most zero = omega arith
    most (suc zero) = omega arith
    most (suc (suc zero)) = omega arith
    most (suc (suc (suc k))) = omega arith

    link : (k : ℕ) → HasSoundLinks mixed_kinds (kind_at mixed_kinds k) (shape_at mixed_kinds k)
    link zero = (refl, omega arith, (λ e. cc), (omega arith, inl refl))
    link (suc zero) = (refl, (omega arith, inr (refl, omega arith)))
    link (suc (suc zero)) = (omega arith, omega arith)
    link (suc (suc (suc k))) = tt

-- their runs fit into the arena's nodes
pub mixed-serves : (a : ArenaState) → 8 ≤ a.nodes.most → Serves mixed_kinds a
mixed-serves a most zero = omega arith
mixed-serves a most (suc zero) = omega arith
mixed-serves a most (suc (suc zero)) = omega arith
mixed-serves a most (suc (suc (suc k))) = omega arith

-- a slice that is written back as a whole
pub refilled : (n : ℕ) (new old : List Bool) → length new ≡ n → take n (new ++ drop (length new) old) ≡ new
refilled n new old e = take-append-le n new (drop (length new) old) (omega arith) ∙ take_all n new (omega arith)
