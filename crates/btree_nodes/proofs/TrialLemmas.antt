-- What the tests keep, for them alone.
use Rattle.std.proofs.Common.{◌≡◌, ◌≢◌, ◌≤◌, ◌<◌, ◌+◌, ◌-◌, ◌*◌, ℕ, zero, suc, Bool, true, false, List, [], ◌∷◌, ◌++◌, length, take, get_or, Some, None, IsSome, IfSome, refl, ap, ◌∙◌, sym, subst, arith}
use Rattle.std.proofs.lemmas.List.{take-append-le, take_all}
use Rattle.std.specs.List.{slice_set}
use Rattle.node_arena.specs.declared.elements.Elem.{Elem}
use Rattle.node_arena.specs.declared.elements.Structure.{Structure}
use Rattle.node_arena.specs.declared.elements.Top.TheVariants as tops
use Rattle.node_arena.specs.declared.kinds.NodeKind.{NodeKind}
use Rattle.node_arena.specs.declared.kinds.Shape.TheVariants.{Woven}
use Rattle.node_arena.specs.Arenas.{ArenaState, node_at}
use Rattle.node_arena.specs.Kinds.{kind_at, shape_at}
use Rattle.node_arena.specs.Rules.{AreSound, Serves, HasSoundLinks}
use Rattle.node_arena.specs.Structures.{Tree, empty, rooted, flat, links_of, top_of, walk_of}
use Rattle.node_arena.specs.Trees.{Trees, done, absent, node, roots, Stands}
use Rattle.node_arena.specs.Insertions.{Lacks, IsPutIn}
use Rattle.node_arena.specs.Walks.{walk}
use Rattle.node_arena.proofs.PutInLemmas.{Lacks-put_in, length-put_in}
use Rattle.btree_nodes.specs.Weaving.{root_in}
use Rattle.btree_nodes.specs.Links.{PutsUnder}
use Rattle.btree_nodes.specs.Trials.{IsGrown, IsRooted}

-- ---- nodes that are reached

hung : (a : ArenaState) (c p : ℕ) (t : Trees) → Stands a t → get_or (roots t) p None ≡ Some c → IsRooted a c × IsSome (node_at a c)
hung a c p done h e = cc
hung a c zero (absent t) h e = cc
hung a c (suc p) (absent t) h e = hung a c p t h e
hung a c zero (node i k run ls t) h e =
    let same : i ≡ c = cc (e) in
    subst (λ n. IsRooted a n × IsSome (node_at a n)) same
    (record { trees = node i k run ls done; roots_are = refl; stands = (h.0, h.1, tt) }, subst IsSome (sym h.0) refl)
hung a c (suc p) (node i k run ls t) h e = hung a c p t h.2 e

child-of : (a : ArenaState) (i c p : ℕ) (t : Trees) → roots t ≡ Some i ∷ [] → Stands a t → IfSome (node_at a i) (λ n. Some c ≡ get_or n.links p None)
    → IsRooted a c × IsSome (node_at a c)
child-of a i c p done r h e = cc
child-of a i c p (absent t) r h e = cc
child-of a i c p (node j k run ls t) r h e =
    let same : j ≡ i = cc (r) in
    let at : IfSome (node_at a j) (λ n. Some c ≡ get_or n.links p None) = subst (λ m. IfSome (node_at a m) (λ n. Some c ≡ get_or n.links p None))
    (sym same) e in
    hung a c p ls h.1 (sym (subst (λ o. IfSome o (λ n. Some c ≡ get_or n.links p None)) h.0 at))

-- what is linked from a node that stands stands
pub child-rooted : (a : ArenaState) (i c p : ℕ) → IsRooted a i → IfSome (node_at a i) (λ n. Some c ≡ get_or n.links p None)
    → IsRooted a c × IsSome (node_at a c)
child-rooted a i c p r e = child-of a i c p r.trees r.roots_are r.stands e

top-of : (s : List NodeKind) (a : ArenaState) (t : Tree) → Stands a (links_of t)
    → IfSome (root_in (top_of t)) (IsRooted a) × IfSome (root_in (top_of t)) (λ i. IsSome (node_at a i))
top-of s a empty h = (tt, tt)
top-of s a (flat i run) h = (tt, tt)
top-of s a (rooted i k run ls) h = (record { trees = node i k run ls done; roots_are = refl; stands = h }, subst IsSome (sym h.0) refl)

-- the root of a structure stands
pub top-rooted : (s : List NodeKind) (a : ArenaState) (st : Structure) (free : List Bool) (more : ℕ) → IsGrown s a st free more
    → IfSome (root_in st.top) (IsRooted a) × IfSome (root_in st.top) (λ i. IsSome (node_at a i))
top-rooted s a st free more g =
    subst (λ q. IfSome (root_in q) (IsRooted a) × IfSome (root_in q) (λ i. IsSome (node_at a i))) (sym g.stands.top) (top-of s a g.tree g.stands.nodes)

-- the root at a link stands
pub under-rooted : (s : List NodeKind) (k : ℕ) (a b : ArenaState) (x : Elem) (t : Trees) (i : ℕ) → PutsUnder s k a b x t i
    → IsRooted b i × IsSome (node_at b i)
under-rooted s k a b x t i p = root-of p.tree p.leads p.puts.stands
  where
    root-of : (u : Trees) → roots u ≡ Some i ∷ [] → Stands b u → IsRooted b i × IsSome (node_at b i)
    root-of done e h = cc
    root-of (absent u) e h = cc
    root-of (node j m run ls u) e h =
        let same : j ≡ i = cc (e) in
        (record { trees = node j m run ls u; roots_are = e; stands = h }, subst (λ n. IsSome (node_at b n)) same (subst IsSome (sym h.0) refl))

-- one element more is walked there
pub walk-next : (s : List NodeKind) (k : ℕ) (a b : ArenaState) (x : Elem) (t : Trees) (i : ℕ) (p : PutsUnder s k a b x t i)
    → length (walk s p.tree) ≡ length (walk s t) + 1
walk-next s k a b x t i p = ap length p.puts.walk_is ∙ length-put_in x (walk s t)

-- ---- the one kind

-- the kind keeps the rules
pub sound-kind : (lo hi : ℕ) → 1 ≤ lo → 2 * lo ≤ hi → hi ≤ 16 → AreSound (record { lo = lo; hi = hi; shape = Woven } ∷ [])
sound-kind lo hi some half few = record { some = low; bounds = bound; few = most; links = link }
  where
    s : List NodeKind
    s = record { lo = lo; hi = hi; shape = Woven } ∷ []

    low : (k : ℕ) → 1 ≤ (kind_at (record { lo = lo; hi = hi; shape = Woven } ∷ []) k).lo
    low zero = some
    low (suc k) = omega arith

    bound : (k : ℕ) → (kind_at (record { lo = lo; hi = hi; shape = Woven } ∷ []) k).lo ≤ (kind_at (record { lo = lo; hi = hi; shape = Woven } ∷ []) k).hi
    bound zero = omega arith
    bound (suc k) = omega arith

    most : (k : ℕ) → (kind_at (record { lo = lo; hi = hi; shape = Woven } ∷ []) k).hi ≤ 16
    most zero = few
    most (suc k) = omega arith

    link : (k : ℕ) → HasSoundLinks (record { lo = lo; hi = hi; shape = Woven } ∷ []) (kind_at (record { lo = lo; hi = hi; shape = Woven } ∷ []) k)
        (shape_at (record { lo = lo; hi = hi; shape = Woven } ∷ []) k)
    link zero = (omega arith, half)
    link (suc k) = tt

-- its runs fit into the arena's nodes
pub serves-kind : (lo hi : ℕ) (a : ArenaState) → 1 ≤ hi → hi ≤ a.nodes.most → Serves (record { lo = lo; hi = hi; shape = Woven } ∷ []) a
serves-kind lo hi a some most zero = most
serves-kind lo hi a some most (suc k) = omega arith

-- ---- structures that grow

-- an empty structure lacks all
pub grown-empty : (s : List NodeKind) (a : ArenaState) (st : Structure) (free : List Bool) (more : ℕ) → st ≡ record { top = tops.Empty; len = 0; spine = 0 }
    → Serves s a → 12 * more ≤ a.nodes.spare → more < 4095 → IsGrown s a st free more
grown-empty s a st free more e serves spare few = subst (λ q. IsGrown s a q free more) (sym e) (record {
  tree = empty;
  stands = record { top = refl; nodes = tt; once = tt; run = tt; counted = refl };
  conforms = record { tree = tt; spine_kept = omega arith; spine_low = omega arith };
  lacks = λ n f. tt;
  serves = serves;
  spare = spare;
  few = omega arith;
})

-- fewer are still to come
pub grown-less : (s : List NodeKind) (a : ArenaState) (st : Structure) (free : List Bool) (more less : ℕ) → less ≤ more → IsGrown s a st free more
    → IsGrown s a st free less
grown-less s a st free more less l g = record {
  tree = g.tree;
  stands = g.stands;
  conforms = g.conforms;
  lacks = g.lacks;
  serves = g.serves;
  spare = omega (arith, g.spare);
  few = omega (arith, g.few);
}

free-set : (free : List Bool) (at n : ℕ) → at < length free → get_or (slice_set free at false) n false ≡ true → (at ≢ n) × (get_or free n false ≡ true)
free-set [] at n l e = absurd (omega arith)
free-set (b ∷ free) zero zero l e = let f : false ≡ true = e in cc
free-set (b ∷ free) zero (suc n) l e = ((λ f. cc), e)
free-set (b ∷ free) (suc at) zero l e = ((λ f. cc), e)
free-set (b ∷ free) (suc at) (suc n) l e =
    let r = free-set free at n (omega arith) e in
    ((λ f. r.0 (omega arith)), r.1)

-- an element whose coordinate was free is put in
pub grown-put : (s : List NodeKind) (a b : ArenaState) (st new : Structure) (free : List Bool) (more : ℕ) (x : Elem) (at : ℕ) → x.at ≡ at → at < length free
    → 0 < more
    → (g : IsGrown s a st free more) → IsPutIn s 0 a b x g.tree new → b.nodes.most ≡ a.nodes.most → a.nodes.spare ≤ b.nodes.spare + 12
    → new.len ≡ st.len + 1 → IsGrown s b new (slice_set free at false) (more - 1)
grown-put s a b st new free more x at same l some g p most spare len = record {
  tree = p.tree;
  stands = p.stands;
  conforms = p.conforms;
  lacks = λ n e.
      let r = free-set free at n l e in
      subst (Lacks n) (sym p.walk_is) (Lacks-put_in n x (walk_of s g.tree) (λ z. r.0 (sym same ∙ z)) (g.lacks n r.1));
  serves = λ k. subst (λ m. (kind_at s k).hi ≤ m) (sym most) (g.serves k);
  spare = omega (arith, g.spare);
  few = omega (arith, g.few);
}

-- the same marks in another list
pub grown-same : (s : List NodeKind) (a : ArenaState) (st : Structure) (free other : List Bool) (more : ℕ) → other ≡ free → IsGrown s a st free more
    → IsGrown s a st other more
grown-same s a st free other more e g = subst (λ f. IsGrown s a st f more) (sym e) g

-- the marks are written back, and fewer are still to come
pub grown-back : (s : List NodeKind) (a : ArenaState) (st : Structure) (free rest : List Bool) (n more less : ℕ) → length free ≡ n → less ≤ more
    → IsGrown s a st free more → IsGrown s a st (take n (free ++ rest)) less
grown-back s a st free rest n more less e l g =
    let same : take n (free ++ rest) ≡ free = take-append-le n free rest (omega arith) ∙ take_all n free (omega arith) in
    grown-same s a st free (take n (free ++ rest)) less same (grown-less s a st free more less l g)
