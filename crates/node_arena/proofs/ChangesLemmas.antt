-- What one change of a node or a run keeps, and what several changes in a row keep.
use Rattle.std.proofs.Common.{◌≡◌, ◌≢◌, ◌≤◌, ◌+◌, ℕ, List, [], ◌∷◌, ◌++◌, length, Option, Some, None, IsSome, refl, ap, ◌∙◌, sym, subst, arith, length-append}
use Rattle.node_arena.specs.declared.elements.Elem.{Elem}
use Rattle.node_arena.specs.Arenas.{NodeState, RunState, ArenaState, node_at, run_at, ChangesNode, ChangesRun}
use Rattle.node_arena.specs.Insertions.{Misses, DifferInFew}
use Rattle.node_arena.specs.Structures.{Tree, empty, flat, links_of, AvoidsRun, Keeps, TakesNew, ChangesOnlyTree}
use Rattle.node_arena.specs.Trees.{Trees, done, node, stored, beside, Stands, Avoids, KeepsOutside, TakesFree, ChangesOnly}
use Rattle.node_arena.proofs.FramesLemmas.{Stands-changed}
use Rattle.node_arena.proofs.RowsLemmas.{Avoids-beside, beside-Avoids}

-- ---- numbers that are taken

some_none : {X : Type 0} (o : Option X) → IsSome o → o ≡ None → ⊥
some_none None h e = cc
some_none (Some x) h e = cc

-- a number with a node isn't a free one
pub node_differs : (a : ArenaState) (i j : ℕ) → IsSome (node_at a i) → node_at a j ≡ None → j ≢ i
node_differs a i j h free same = some_none (node_at a i) h (ap (node_at a) (sym same) ∙ free)

-- a number with a run isn't a free one
pub run_differs : (a : ArenaState) (i j : ℕ) → IsSome (run_at a i) → run_at a j ≡ None → j ≢ i
run_differs a i j h free same = some_none (run_at a i) h (ap (run_at a) (sym same) ∙ free)

-- ---- nodes

-- a node that is written under a new number stands, with what stands at its links
pub Stands-written : (a b : ArenaState) (i k : ℕ) (run : List Elem) (ls : Trees) → ChangesNode a b i (Some (stored k run ls)) → Avoids i ls → Stands a ls
    → Stands b (node i k run ls done)
Stands-written a b i k run ls c v h = (c.node.changed, Stands-changed ls c v h, tt)

-- nothing is changed
pub KeepsOutside-same : (a : ArenaState) (t : Trees) → KeepsOutside a a t
KeepsOutside-same a t i h v = refl

-- a node of the trees is changed or taken out
pub KeepsOutside-change : (a b : ArenaState) (t : Trees) (i : ℕ) (slot : Option NodeState) → ChangesNode a b i slot → (Avoids i t → ⊥) → KeepsOutside a b t
KeepsOutside-change a b t i slot c within j h v = c.node.others j (λ same. within (subst (λ n. Avoids n t) same v))

-- a node is made
pub KeepsOutside-made : (a b : ArenaState) (t : Trees) (i : ℕ) (slot : Option NodeState) → ChangesNode a b i slot → node_at a i ≡ None → KeepsOutside a b t
KeepsOutside-made a b t i slot c free j h v = c.node.others j (λ same. node_differs a j i h free (sym same))

-- no node is changed
pub KeepsOutside-run : (a b : ArenaState) (t : Trees) → b.nodes ≡ a.nodes → KeepsOutside a b t
KeepsOutside-run a b t same j h v = rw same refl

-- what is kept outside some trees is kept outside more
pub KeepsOutside-wider : (a b : ArenaState) (t u : Trees) → ((i : ℕ) → Avoids i u → Avoids i t) → KeepsOutside a b t → KeepsOutside a b u
KeepsOutside-wider a b t u within keeps i h v = keeps i h (within i v)

-- first one change and then another one, which the trees of the first have become
pub KeepsOutside-then : (a b c : ArenaState) (t u : Trees) → KeepsOutside a b t → TakesFree a t u → KeepsOutside b c u → KeepsOutside a c t
KeepsOutside-then a b c t u first news second i h v =
    let same : node_at b i ≡ node_at a i = first i h v in
    second i (subst IsSome (sym same) h) (news i h v) ∙ same

-- no number is taken
pub TakesFree-same : (a : ArenaState) (t : Trees) → TakesFree a t t
TakesFree-same a t i h v = v

-- numbers are taken in one change and in another one
pub TakesFree-then : (a b : ArenaState) (t u v : Trees) → KeepsOutside a b t → TakesFree a t u → TakesFree b u v → TakesFree a t v
TakesFree-then a b t u v keeps first second i h away = second i (subst IsSome (sym (keeps i h away)) h) (first i h away)

-- ---- nodes that change, and no others

-- nothing is changed
pub ChangesOnly-same : (a : ArenaState) (t : Trees) → ChangesOnly a a t t
ChangesOnly-same a t = record { others = λ i h v. refl; stays = λ i h. h; news = λ i h v. v }

-- what was outside the old trees is as before
pub KeepsOutside-only : (a b : ArenaState) (t u : Trees) → ChangesOnly a b t u → KeepsOutside a b t
KeepsOutside-only a b t u h i some v = h.others i v (h.news i some v)

-- one node is written, which the new trees have
pub ChangesOnly-change : (a b : ArenaState) (t u : Trees) (i : ℕ) (slot : Option NodeState) → ChangesNode a b i slot → (Avoids i u → ⊥)
    → ((j : ℕ) → Avoids j u → Avoids j t) → TakesFree a t u → ChangesOnly a b t u
ChangesOnly-change a b t u i slot c within stays news = record {
  others = λ j v w. c.node.others j (λ same. within (subst (λ n. Avoids n u) same w));
  stays = stays;
  news = news;
}

-- first one change and then another one
pub ChangesOnly-then : (a b c : ArenaState) (t u v : Trees) → ChangesOnly a b t u → ChangesOnly b c u v → ChangesOnly a c t v
ChangesOnly-then a b c t u v first second = record {
  others = λ i h g. second.others i (second.stays i g) g ∙ first.others i h (second.stays i g);
  stays = λ i g. first.stays i (second.stays i g);
  news = λ i some h.
      let w : Avoids i u = first.news i some h in
      second.news i (subst IsSome (sym (first.others i h w)) some) w;
}

-- what hangs at the links of a node is changed, and then the node is written
pub ChangesOnly-under : (a b c : ArenaState) (i k m : ℕ) (run other : List Elem) (ls ms : Trees) (slot : Option NodeState) → ChangesOnly a b ls ms
    → ChangesNode b c i slot → ChangesOnly a c (node i k run ls done) (node i m other ms done)
ChangesOnly-under a b c i k m run other ls ms slot h e = record {
  others = λ j v w. e.node.others j (λ same. v.0 (sym same)) ∙ h.others j v.1 w.1;
  stays = λ j w. (w.0, h.stays j w.1, tt);
  news = λ j some v. (v.0, h.news j some v.1, tt);
}

-- some trees of a row are changed
pub ChangesOnly-beside : (a b : ArenaState) (before t u later : Trees) → ChangesOnly a b t u
    → ChangesOnly a b (beside before (beside t later)) (beside before (beside u later))
ChangesOnly-beside a b before t u later h = record {
  others = λ j v w. h.others j (parts t j v).1.0 (parts u j w).1.0;
  stays = λ j w. let q = parts u j w in Avoids-beside j before (beside t later) q.0 (Avoids-beside j t later (h.stays j q.1.0) q.1.1);
  news = λ j some v. let q = parts t j v in Avoids-beside j before (beside u later) q.0 (Avoids-beside j u later (h.news j some q.1.0) q.1.1);
}
  where
    parts : (w : Trees) (j : ℕ) → Avoids j (beside before (beside w later)) → Avoids j before × (Avoids j w × Avoids j later)
    parts w j v = let q = beside-Avoids j before (beside w later) v in (q.0, beside-Avoids j w later q.1)

-- ---- structures

-- nothing is changed
pub Keeps-same : (a : ArenaState) (t : Tree) → Keeps a a t
Keeps-same a t = record { nodes = λ i h v. refl; runs = λ i h v. refl }

-- a node of the structure is changed or taken out
pub Keeps-change : (a b : ArenaState) (t : Tree) (i : ℕ) (slot : Option NodeState) → ChangesNode a b i slot → (Avoids i (links_of t) → ⊥) → Keeps a b t
Keeps-change a b t i slot c within = record {
  nodes = KeepsOutside-change a b (links_of t) i slot c within;
  runs = λ j h v. let same : b.runs ≡ a.runs = c.runs in rw same refl;
}

-- a node is made
pub Keeps-made : (a b : ArenaState) (t : Tree) (i : ℕ) (slot : Option NodeState) → ChangesNode a b i slot → node_at a i ≡ None → Keeps a b t
Keeps-made a b t i slot c free = record {
  nodes = KeepsOutside-made a b (links_of t) i slot c free;
  runs = λ j h v. let same : b.runs ≡ a.runs = c.runs in rw same refl;
}

-- the structure's run is changed or taken out
pub Keeps-change_run : (a b : ArenaState) (i : ℕ) (run : List Elem) (slot : Option RunState) → ChangesRun a b i slot → Keeps a b (flat i run)
Keeps-change_run a b i run slot c = record {
  nodes = KeepsOutside-run a b done c.nodes;
  runs = λ j h v. c.run.others j (λ same. v (sym same));
}

-- a run is made
pub Keeps-made_run : (a b : ArenaState) (t : Tree) (i : ℕ) (slot : Option RunState) → ChangesRun a b i slot → run_at a i ≡ None → Keeps a b t
Keeps-made_run a b t i slot c free = record {
  nodes = KeepsOutside-run a b (links_of t) c.nodes;
  runs = λ j h v. c.run.others j (λ same. run_differs a j i h free (sym same));
}

-- first one change and then another one, which the structure of the first has become
pub Keeps-then : (a b c : ArenaState) (t u : Tree) → Keeps a b t → TakesNew a t u → Keeps b c u → Keeps a c t
Keeps-then a b c t u first news second = record {
  nodes = KeepsOutside-then a b c (links_of t) (links_of u) first.nodes news.nodes second.nodes;
  runs = λ i h v.
      let same : run_at b i ≡ run_at a i = first.runs i h v in
      second.runs i (subst IsSome (sym same) h) (news.runs i h v) ∙ same;
}

-- no number is taken
pub TakesNew-same : (a : ArenaState) (t : Tree) → TakesNew a t t
TakesNew-same a t = record { nodes = λ i h v. v; runs = λ i h v. v }

-- numbers are taken in one change and in another one
pub TakesNew-then : (a b : ArenaState) (t u v : Tree) → Keeps a b t → TakesNew a t u → TakesNew b u v → TakesNew a t v
TakesNew-then a b t u v keeps first second = record {
  nodes = TakesFree-then a b (links_of t) (links_of u) (links_of v) keeps.nodes first.nodes second.nodes;
  runs = λ i h away. second.runs i (subst IsSome (sym (keeps.runs i h away)) h) (first.runs i h away);
}

-- nodes are changed, and no runs
pub ChangesOnlyTree-nodes : (a b : ArenaState) (t u : Tree) → ChangesOnly a b (links_of t) (links_of u) → b.runs ≡ a.runs
    → ((i : ℕ) → AvoidsRun i t) → ((i : ℕ) → AvoidsRun i u) → ChangesOnlyTree a b t u
ChangesOnlyTree-nodes a b t u h same v w = record {
  nodes = h;
  runs = record { others = λ i x y. rw same refl; stays = λ i y. v i; news = λ i some x. w i };
}

-- the structure's run is changed
pub ChangesOnlyTree-run : (a b : ArenaState) (i : ℕ) (run other : List Elem) (slot : Option RunState) → ChangesRun a b i slot
    → ChangesOnlyTree a b (flat i run) (flat i other)
ChangesOnlyTree-run a b i run other slot c = record {
  nodes = record { others = λ j v w. let same : b.nodes ≡ a.nodes = c.nodes in rw same refl; stays = λ j w. tt; news = λ j some v. tt };
  runs = record { others = λ j v w. c.run.others j (λ same. v (sym same)); stays = λ j w. w; news = λ j some v. v };
}

-- an empty structure becomes a run that is made
pub ChangesOnlyTree-made_run : (a b : ArenaState) (i : ℕ) (run : List Elem) (slot : Option RunState) → ChangesRun a b i slot → run_at a i ≡ None
    → ChangesOnlyTree a b empty (flat i run)
ChangesOnlyTree-made_run a b i run slot c free = record {
  nodes = record { others = λ j v w. let same : b.nodes ≡ a.nodes = c.nodes in rw same refl; stays = λ j w. tt; news = λ j some v. tt };
  runs = record { others = λ j v w. c.run.others j (λ same. w (sym same)); stays = λ j w. tt; news = λ j some v. run_differs a j i some free };
}

-- what was outside the old tree is as before
pub Keeps-only : (a b : ArenaState) (t u : Tree) → ChangesOnlyTree a b t u → Keeps a b t
Keeps-only a b t u h = record {
  nodes = KeepsOutside-only a b (links_of t) (links_of u) h.nodes;
  runs = λ i some v. h.runs.others i v (h.runs.news i some v);
}

-- the further numbers were free
pub TakesNew-only : (a b : ArenaState) (t u : Tree) → ChangesOnlyTree a b t u → TakesNew a t u
TakesNew-only a b t u h = record { nodes = h.nodes.news; runs = h.runs.news }

-- ---- how many nodes differ

Misses-append : (j : ℕ) (ms ns : List ℕ) → Misses j (ms ++ ns) → Misses j ms × Misses j ns
Misses-append j [] ns h = (tt, h)
Misses-append j (m ∷ ms) ns h = let r = Misses-append j ms ns h.1 in ((h.0, r.0), r.1)

-- no node differs
pub DifferInFew-same : (a : ArenaState) → DifferInFew 0 a a
DifferInFew-same a = record { touched = []; few = omega arith; others = λ j h. refl }

-- one call that writes a node
pub DifferInFew-one : (a b : ArenaState) (i : ℕ) (slot : Option NodeState) → ChangesNode a b i slot → DifferInFew 1 a b
DifferInFew-one a b i slot c = record { touched = i ∷ []; few = omega arith; others = λ j h. c.node.others j (λ same. h.0 (sym same)) }

-- calls one after another
pub DifferInFew-then : (n m : ℕ) (a b c : ArenaState) → DifferInFew n a b → DifferInFew m b c → DifferInFew (n + m) a c
DifferInFew-then n m a b c first second =
    let len : length (first.touched ++ second.touched) ≡ length first.touched + length second.touched = length-append first.touched second.touched in
    let low : length first.touched ≤ n = first.few in
    let more : length second.touched ≤ m = second.few in
    record {
      touched = first.touched ++ second.touched;
      few = omega arith;
      others = λ j h. let r = Misses-append j first.touched second.touched h in second.others j r.1 ∙ first.others j r.0;
    }

-- a greater bound
pub DifferInFew-wider : (n m : ℕ) (a b : ArenaState) → n ≤ m → DifferInFew n a b → DifferInFew m a b
DifferInFew-wider n m a b l d = let low : length d.touched ≤ n = d.few in record { touched = d.touched; few = omega arith; others = d.others }
