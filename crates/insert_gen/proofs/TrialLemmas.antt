-- What the tests keep, for them alone.
use Rattle.std.proofs.Common.{◌≡◌, ◌≢◌, ◌≤◌, ◌<◌, ◌⊎◌, inl, inr, ℕ, zero, suc, Bool, true, false, eqb, List, [], ◌∷◌, ◌++◌, length, take, get_or}
use Rattle.std.proofs.Common.{Option, Some, None, IsSome, IfSome, Result, Ok, Err, refl, ap, ◌∙◌, sym, subst, arith}
use Rattle.std.proofs.lemmas.Bool.Decides.{eqb_tells}
use Rattle.std.proofs.lemmas.List.{take-append-le, take_all}
use Rattle.std.specs.List.{slice_set}
use Rattle.std.specs.Option.{IsSomeAnd}
use Rattle.std.specs.Result.{OnOk, IfOk}
use Rattle.node_arena.specs.declared.elements.Elem.{Elem}
use Rattle.node_arena.specs.declared.elements.Structure.{Structure}
use Rattle.node_arena.specs.declared.elements.Top.{Top}
use Rattle.node_arena.specs.declared.elements.Top.TheVariants as tops
use Rattle.node_arena.specs.declared.kinds.NodeKind.{NodeKind}
use Rattle.node_arena.specs.declared.kinds.Shape.{Shape}
use Rattle.node_arena.specs.declared.kinds.Shape.TheVariants.{Flat, Post, Ends, Woven}
use Rattle.node_arena.specs.Arenas.{RunState, ArenaState, node_at, run_at}
use Rattle.node_arena.specs.Insertions.{Lacks, IsPutIn}
use Rattle.node_arena.specs.Kinds.{kind_at}
use Rattle.node_arena.specs.Rules.{Serves}
use Rattle.node_arena.specs.Structures.{Tree, empty, rooted, flat, links_of, walk_of, HasRun, IsStanding, IsStructure}
use Rattle.node_arena.specs.Trees.{Trees, done, absent, node, Stands}
use Rattle.node_arena.proofs.PutInLemmas.{Lacks-put_in}
use Rattle.chunk_tree.specs.Balancing.{IsRebalanced}
use Rattle.iter_gen.specs.LookingUp.{CanBeRead, elem_with}
use Rattle.insert_gen.specs.Inserting.{HasRoom}
use Rattle.insert_gen.specs.Replacing.{IsThere, IsReplacedIn}
use Rattle.insert_gen.specs.Trials.{IsReadable, IsGrown}

-- ---- what is moved in memory

-- each run that was there has its elements
abbrev pub RunsKept : ArenaState → ArenaState → Type 0
RunsKept a b = (i : ℕ) → IfSome (run_at a i) (λ r. IsSomeAnd (run_at b i) (λ q. q.elems ≡ r.elems))

same-run : (o : Option RunState) → IfSome o (λ r. IsSomeAnd o (λ q. q.elems ≡ r.elems))
same-run None = tt
same-run (Some r) = refl

-- the same runs have their elements
pub RunsKept-same : (a b : ArenaState) → b.runs.slots ≡ a.runs.slots → RunsKept a b
RunsKept-same a b e i =
    let at : run_at b i ≡ run_at a i = ap (λ l. get_or l i None) e in
    subst (λ o. IfSome (run_at a i) (λ r. IsSomeAnd o (λ q. q.elems ≡ r.elems))) (sym at) (same-run (run_at a i))

-- so have they where one is given more room
pub RunsKept-grown : (a b : ArenaState) (g : ℕ) → IfSome (run_at a g) (λ r. IsSomeAnd (run_at b g) (λ q. (q.elems ≡ r.elems) × (r.room ≤ q.room)))
    → ((other : ℕ) → other ≢ g → run_at b other ≡ run_at a other) → RunsKept a b
RunsKept-grown a b g h others i = pick (eqb_tells i g)
  where
    less : (o p : Option RunState) → IfSome o (λ r. IsSomeAnd p (λ q. (q.elems ≡ r.elems) × (r.room ≤ q.room)))
        → IfSome o (λ r. IsSomeAnd p (λ q. q.elems ≡ r.elems))
    less None p f = tt
    less (Some r) None f = f
    less (Some r) (Some q) f = f.0

    pick : ((eqb i g ≡ true) × (i ≡ g)) ⊎ ((eqb i g ≡ false) × (i ≢ g)) → IfSome (run_at a i) (λ r. IsSomeAnd (run_at b i) (λ q. q.elems ≡ r.elems))
    pick (inl e) = subst (λ n. IfSome (run_at a n) (λ r. IsSomeAnd (run_at b n) (λ q. q.elems ≡ r.elems))) (sym e.1) (less (run_at a g) (run_at b g) h)
    pick (inr e) =
        subst (λ o. IfSome (run_at a i) (λ r. IsSomeAnd o (λ q. q.elems ≡ r.elems))) (sym (others i e.1)) (same-run (run_at a i))

-- the same nodes
pub nodes-same : (a b : ArenaState) → b.nodes.slots ≡ a.nodes.slots → (i : ℕ) → node_at b i ≡ node_at a i
nodes-same a b e i = ap (λ l. get_or l i None) e

Stands-moved : (a b : ArenaState) → ((i : ℕ) → node_at b i ≡ node_at a i) → (t : Trees) → Stands a t → Stands b t
Stands-moved a b f done h = tt
Stands-moved a b f (absent t) h = Stands-moved a b f t h
Stands-moved a b f (node i k run ls t) h = (f i ∙ h.0, Stands-moved a b f ls h.1, Stands-moved a b f t h.2)

HasRun-moved : (a b : ArenaState) → RunsKept a b → (t : Tree) → HasRun a t → HasRun b t
HasRun-moved a b f empty h = tt
HasRun-moved a b f (rooted i k run ls) h = tt
HasRun-moved a b f (flat i run) h = both (run_at a i) (run_at b i) h (f i)
  where
    both : (o p : Option RunState) → IsSomeAnd o (λ r. r.elems ≡ run) → IfSome o (λ r. IsSomeAnd p (λ q. q.elems ≡ r.elems)) → IsSomeAnd p (λ q. q.elems ≡ run)
    both None p g e = absurd g
    both (Some r) None g e = absurd e
    both (Some r) (Some q) g e = e ∙ g

-- the structure is there as before
pub grown-moved : (s : List NodeKind) (k : ℕ) (a b : ArenaState) (st : Structure) (free : List Bool) → ((i : ℕ) → node_at b i ≡ node_at a i)
    → b.nodes.most ≡ a.nodes.most → RunsKept a b → IsGrown s k a st free → IsGrown s k b st free
grown-moved s k a b st free f most runs g = record {
  tree = g.tree;
  stands = record {
    top = g.stands.top;
    nodes = Stands-moved a b f (links_of g.tree) g.stands.nodes;
    once = g.stands.once;
    run = HasRun-moved a b runs g.tree g.stands.run;
    counted = g.stands.counted;
  };
  conforms = g.conforms;
  lacks = g.lacks;
  serves = λ n. subst (λ m. (kind_at s n).hi ≤ m) (sym most) (g.serves n);
}

-- ---- what is there

there-run : (a : ArenaState) (i j : ℕ) (run : List Elem) → j ≡ i → IsSomeAnd (run_at a j) (λ r. r.elems ≡ run) → IsSome (run_at a i)
there-run a i j run e h = some (run_at a i) (subst (λ n. IsSomeAnd (run_at a n) (λ r. r.elems ≡ run)) e h)
  where
    some : (o : Option RunState) → IsSomeAnd o (λ r. r.elems ≡ run) → IsSome o
    some None g = absurd g
    some (Some r) g = refl

run-number : (i j : ℕ) → tops.Run i ≡ tops.Run j → i ≡ j
run-number i j e = cc

-- the run of a flat structure is there
pub grown-run : (s : List NodeKind) (k : ℕ) (a : ArenaState) (st : Structure) (free : List Bool) (i : ℕ) → IsGrown s k a st free → st.top ≡ tops.Run i
    → IsSome (run_at a i)
grown-run s k a st free i g e = pick g.tree g.stands
  where
    pick : (t : Tree) → IsStanding s a st t → IsSome (run_at a i)
    pick empty h = let f = sym h.top ∙ e in cc
    pick (rooted j m run ls) h = let f = sym h.top ∙ e in cc
    pick (flat j run) h = there-run a i j run (run-number j i (sym h.top ∙ e)) h.run

readable-tree : (s : List NodeKind) (a : ArenaState) (st : Structure) (t : Tree) → IsStanding s a st t → IsReadable a st.top
readable-tree s a st empty h = subst (IsReadable a) (sym h.top) tt
readable-tree s a st (rooted i m run ls) h =
    subst (IsReadable a) (sym h.top) (subst IsSome (sym h.nodes.0) refl, record { trees = node i m run ls done; roots_are = refl; stands = h.nodes })
readable-tree s a st (flat i run) h = subst (IsReadable a) (sym h.top) (there-run a i i run refl h.run)

-- the structure can be read
pub readable-grown : (s : List NodeKind) (k : ℕ) (a : ArenaState) (st : Structure) (free : List Bool) → IsGrown s k a st free → IsReadable a st.top
readable-grown s k a st free g = readable-tree s a st g.tree g.stands

-- ---- room

-- there is room in a run that was given it
pub room-grown : (a b : ArenaState) (sh : Shape) (i : ℕ) {E : Type 0} (r : Result (Unit {0}) E) → IsSome (run_at a i) → RunsKept a b
    → OnOk r (IfSome (run_at b i) (λ q. 1 ≤ q.room)) → OnOk r (HasRoom (tops.Run i) sh b)
room-grown a b sh i (Err e) h f ok = tt
room-grown a b sh i (Ok u) h f ok = both (run_at a i) (run_at b i) h (f i) ok
  where
    both : (o p : Option RunState) → IsSome o → IfSome o (λ r. IsSomeAnd p (λ q. q.elems ≡ r.elems)) → IfSome p (λ q. 1 ≤ q.room) → IsSomeAnd p (λ q. 1 ≤
        q.room)
    both None p g e k = cc
    both (Some r) None g e k = absurd e
    both (Some r) (Some q) g e k = k

-- elsewhere a spare run with room is enough
pub room-other : (a : ArenaState) (top : Top) (sh : Shape) → ((i : ℕ) → top ≢ tops.Run i) → 1 ≤ a.runs.room → HasRoom top sh a
room-other a tops.Empty Flat h r = r
room-other a tops.Empty (Post p) h r = tt
room-other a tops.Empty (Ends p q) h r = tt
room-other a tops.Empty Woven h r = tt
room-other a (tops.Node i) sh h r = tt
room-other a (tops.Run i) sh h r = absurd (h i refl)

-- ---- structures that grow

-- an empty structure lacks all
pub grown-empty : (s : List NodeKind) (k : ℕ) (a : ArenaState) (st : Structure) (free : List Bool) → st ≡ record { top = tops.Empty; len = 0; spine = 0 }
    → Serves s a → IsGrown s k a st free
grown-empty s k a st free e serves = subst (λ q. IsGrown s k a q free) (sym e) (record {
  tree = empty;
  stands = record { top = refl; nodes = tt; once = tt; run = tt; counted = refl };
  conforms = record { tree = tt; spine_kept = omega arith; spine_low = omega arith };
  lacks = λ n f. tt;
  serves = serves;
})

free-set : (free : List Bool) (at n : ℕ) → at < length free → get_or (slice_set free at false) n false ≡ true → (at ≢ n) × (get_or free n false ≡ true)
free-set [] at n l e = absurd (omega arith)
free-set (b ∷ free) zero zero l e = let f : false ≡ true = e in cc
free-set (b ∷ free) zero (suc n) l e = ((λ f. cc), e)
free-set (b ∷ free) (suc at) zero l e = ((λ f. cc), e)
free-set (b ∷ free) (suc at) (suc n) l e =
    let r = free-set free at n (omega arith) e in
    ((λ f. r.0 (omega arith)), r.1)

-- an element whose coordinate was free is put in
pub grown-put : (s : List NodeKind) (k : ℕ) (a b : ArenaState) (st new : Structure) (free : List Bool) (x : Elem) (at : ℕ) → x.at ≡ at → at < length free
    → (g : IsGrown s k a st free) → IsPutIn s k a b x g.tree new → b.nodes.most ≡ a.nodes.most → IsGrown s k b new (slice_set free at false)
grown-put s k a b st new free x at same l g p most = record {
  tree = p.tree;
  stands = p.stands;
  conforms = p.conforms;
  lacks = λ n e.
      let r = free-set free at n l e in
      subst (Lacks n) (sym p.walk_is) (Lacks-put_in n x (walk_of s g.tree) (λ z. r.0 (sym same ∙ z)) (g.lacks n r.1));
  serves = λ n. subst (λ m. (kind_at s n).hi ≤ m) (sym most) (g.serves n);
}

-- what is rebalanced has the same elements, and a low spine
pub grown-rebalanced : (s : List NodeKind) (k : ℕ) (a b : ArenaState) (st : Structure) (free : List Bool) {E : Type 0} (r : Result Structure E)
    → IsGrown s k a st free → b.nodes.most ≡ a.nodes.most
    → IfOk r (λ new. (t : Tree) → IsStructure s k a st t → IsRebalanced s k a b st t new)
    → IfOk r (λ new. IsGrown s k b new free × (new.spine < 96) × (new.len ≡ st.len))
grown-rebalanced s k a b st free (Err e) g most ok = tt
grown-rebalanced s k a b st free (Ok new) g most ok =
    let h = ok g.tree (record { stands = g.stands; conforms = g.conforms }) in (
      record {
        tree = h.tree;
        stands = h.holds.stands;
        conforms = h.holds.conforms;
        lacks = λ n e. subst (Lacks n) (sym h.walk_is) (g.lacks n e);
        serves = λ n. subst (λ m. (kind_at s n).hi ≤ m) (sym most) (g.serves n);
      },
      omega (arith, h.spine_few),
      h.len_is,
    )

-- the marks are written back
pub grown-back : (s : List NodeKind) (k : ℕ) (a : ArenaState) (st : Structure) (free rest : List Bool) (n : ℕ) → length free ≡ n → IsGrown s k a st free
    → IsGrown s k a st (take n (free ++ rest))
grown-back s k a st free rest n e g =
    let same : take n (free ++ rest) ≡ free = take-append-le n free rest (omega (arith, e)) ∙ take_all n free (omega (arith, e)) in
    subst (λ f. IsGrown s k a st f) (sym same) g

-- ---- what is read and replaced

-- the structure can be read
pub read-grown : (s v : List NodeKind) (k : ℕ) (a : ArenaState) (st : Structure) (free : List Bool) → v ≡ s → IsGrown s k a st free → CanBeRead v a st
read-grown s v k a st free e g =
    subst (λ w. CanBeRead w a st) (sym e) (record { kind = k; tree = g.tree; stands = g.stands; conforms = g.conforms })

-- so can it be once an element is replaced
pub read-replaced : (s v : List NodeKind) (k : ℕ) (a b : ArenaState) (x : Elem) (st : Structure) (t : Tree) → v ≡ s → IsReplacedIn s k a b x t st
    → CanBeRead v b st
read-replaced s v k a b x st t e r =
    subst (λ w. CanBeRead w b st) (sym e) (record { kind = k; tree = r.tree; stands = r.stands; conforms = r.conforms })

missing : (x : Elem) → Some x ≡ None → ⊥
missing x e = cc

-- what is found is there
pub there-grown : (s v : List NodeKind) (a : ArenaState) (st : Structure) (t : Tree) (at : ℕ) (o : Option Elem) (x : Elem) → v ≡ s
    → IsStanding s a st t → ((u : Tree) → IsStanding v a st u → o ≡ elem_with at (walk_of v u)) → o ≡ Some x → IsThere at (walk_of s t)
there-grown s v a st t at o x e h f is none =
    let read : o ≡ elem_with at (walk_of v t) = f t (subst (λ w. IsStanding w a st t) (sym e) h) in
    missing x (sym is ∙ read ∙ ap (λ w. elem_with at (walk_of w t)) e ∙ none)
