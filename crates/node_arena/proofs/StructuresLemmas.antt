-- Structures that stand apart: one tree for each, and what a change of another one leaves.
use Rattle.std.proofs.Common.{◌≡◌, ◌≢◌, ℕ, List, [], ◌∷◌, Option, Some, None, IsSome, refl, ap, ◌∙◌, sym, subst}
use Rattle.std.specs.Option.{IsSomeAnd}
use Rattle.node_arena.specs.declared.elements.Elem.{Elem}
use Rattle.node_arena.specs.declared.elements.Structure.{Structure}
use Rattle.node_arena.specs.declared.elements.Top.TheVariants as tops
use Rattle.node_arena.specs.declared.kinds.NodeKind.{NodeKind}
use Rattle.node_arena.specs.Arenas.{NodeState, RunState, ArenaState, node_at, run_at, ChangesNode, ChangesRun}
use Rattle.node_arena.specs.Trees.{Trees, done, absent, node, roots, Stands}
use Rattle.node_arena.specs.Structures.{Tree, empty, rooted, flat, links_of, top_of, HasRun, IsStanding, HaveOwnRuns, AreApart, Keeps, TakesNew}
use Rattle.node_arena.proofs.FramesLemmas.{Stands-changed, Stands-outside, Avoids-free}
use Rattle.node_arena.proofs.RowsLemmas.{IsApart-new, IsApart-flip}
use Rattle.node_arena.proofs.Uniqueness.{trees_unique}

-- ---- options

some-of : (o : Option RunState) (P : RunState → Type 0) → IsSomeAnd o P → IsSome o
some-of None P h = absurd h
some-of (Some r) P h = refl

elems-same : (o : Option RunState) (run other : List Elem) → IsSomeAnd o (λ r. r.elems ≡ run) → IsSomeAnd o (λ r. r.elems ≡ other) → run ≡ other
elems-same None run other h g = absurd h
elems-same (Some r) run other h g = sym h ∙ g

node-number : (i j : ℕ) → tops.Node i ≡ tops.Node j → i ≡ j
node-number i j e = cc

run-number : (i j : ℕ) → tops.Run i ≡ tops.Run j → i ≡ j
run-number i j e = cc

-- ---- one tree

-- the tree of the first link
abbrev tree_of : Trees → Tree
tree_of done = empty
tree_of (absent rest) = empty
tree_of (node i k run ls rest) = rooted i k run ls

-- an arena and a top determine the tree
pub trees_same : (a : ArenaState) (t u : Tree) → top_of t ≡ top_of u → Stands a (links_of t) → Stands a (links_of u) → HasRun a t → HasRun a u
    → t ≡ u
trees_same a empty empty e h g r q = refl
trees_same a empty (rooted j m s ls) e h g r q = cc
trees_same a empty (flat j s) e h g r q = cc
trees_same a (rooted i k run ls) empty e h g r q = cc
trees_same a (rooted i k run ls) (rooted j m s ks) e h g r q =
    let roots_same : roots (node i k run ls done) ≡ roots (node j m s ks done) = ap (λ n. Some n ∷ []) (node-number i j e) in
    ap tree_of (trees_unique a (node i k run ls done) (node j m s ks done) h g roots_same)
trees_same a (rooted i k run ls) (flat j s) e h g r q = cc
trees_same a (flat i run) empty e h g r q = cc
trees_same a (flat i run) (rooted j m s ks) e h g r q = cc
trees_same a (flat i run) (flat j s) e h g r q =
    let n : i ≡ j = run-number i j e in
    let at : IsSomeAnd (run_at a j) (λ v. v.elems ≡ run) = subst (λ k. IsSomeAnd (run_at a k) (λ v. v.elems ≡ run)) n r in
    ap (λ k. flat k run) n ∙ ap (flat j) (elems-same (run_at a j) run s at q)

-- a structure is one tree
pub tree_unique : (s : List NodeKind) (a : ArenaState) (st : Structure) (t u : Tree) → IsStanding s a st t → IsStanding s a st u → t ≡ u
tree_unique s a st t u h g = trees_same a t u (sym h.top ∙ g.top) h.nodes g.nodes h.run g.run

-- ---- the frame

HasRun-outside : (a b : ArenaState) (t u : Tree) → Keeps a b t → HaveOwnRuns u t → HasRun a u → HasRun b u
HasRun-outside a b t empty keeps own h = tt
HasRun-outside a b t (rooted i k run ls) keeps own h = tt
HasRun-outside a b t (flat i run) keeps own h =
    subst (λ o. IsSomeAnd o (λ r. r.elems ≡ run)) (sym (keeps.runs i (some-of (run_at a i) (λ r. r.elems ≡ run) h) own)) h

-- a structure apart from a tree stands as before where all outside that tree is kept
pub IsStanding-outside : (s : List NodeKind) (a b : ArenaState) (st : Structure) (t u : Tree) → Keeps a b t → AreApart u t
    → IsStanding s a st u → IsStanding s b st u
IsStanding-outside s a b st t u keeps apart h = record {
  top = h.top;
  nodes = Stands-outside a b (links_of t) (links_of u) keeps.nodes apart.nodes h.nodes;
  once = h.once;
  run = HasRun-outside a b t u keeps apart.runs h.run;
  counted = h.counted;
}

HasRun-kept : (a b : ArenaState) (t : Tree) → b.runs ≡ a.runs → HasRun a t → HasRun b t
HasRun-kept a b empty e h = tt
HasRun-kept a b (rooted i k run ls) e h = tt
HasRun-kept a b (flat i run) e h = rw e h

-- a structure stands as before behind a call that makes a node
pub IsStanding-node : (s : List NodeKind) (a b : ArenaState) (st : Structure) (t : Tree) (i : ℕ) (slot : Option NodeState) → node_at a i ≡ None
    → ChangesNode a b i slot → IsStanding s a st t → IsStanding s b st t
IsStanding-node s a b st t i slot free c h = record {
  top = h.top;
  nodes = Stands-changed (links_of t) c (Avoids-free a (links_of t) i free h.nodes) h.nodes;
  once = h.once;
  run = HasRun-kept a b t c.runs h.run;
  counted = h.counted;
}

Stands-kept : (a b : ArenaState) (t : Trees) → b.nodes ≡ a.nodes → Stands a t → Stands b t
Stands-kept a b done e h = tt
Stands-kept a b (absent t) e h = Stands-kept a b t e h
Stands-kept a b (node i k run ls t) e h = (rw e h.0, Stands-kept a b ls e h.1, Stands-kept a b t e h.2)

HasRun-changed : (a b : ArenaState) (t : Tree) (i : ℕ) (slot : Option RunState) → run_at a i ≡ None → ChangesRun a b i slot → HasRun a t → HasRun b t
HasRun-changed a b empty i slot free c h = tt
HasRun-changed a b (rooted j k run ls) i slot free c h = tt
HasRun-changed a b (flat j run) i slot free c h =
    let gone : (o : Option RunState) → o ≡ None → IsSomeAnd o (λ r. r.elems ≡ run) → ⊥ = λ o e g. subst (λ v. IsSomeAnd v (λ r. r.elems ≡ run)) e g in
    let differs : j ≢ i = λ same. gone (run_at a j) (ap (run_at a) same ∙ free) h in
    subst (λ o. IsSomeAnd o (λ r. r.elems ≡ run)) (sym (c.run.others j differs)) h

-- a structure stands as before behind a call that makes a run
pub IsStanding-run : (s : List NodeKind) (a b : ArenaState) (st : Structure) (t : Tree) (i : ℕ) (slot : Option RunState) → run_at a i ≡ None
    → ChangesRun a b i slot → IsStanding s a st t → IsStanding s b st t
IsStanding-run s a b st t i slot free c h = record {
  top = h.top;
  nodes = Stands-kept a b (links_of t) c.nodes h.nodes;
  once = h.once;
  run = HasRun-changed a b t i slot free c h.run;
  counted = h.counted;
}

-- ---- apart

HaveOwnRuns-flip : (t u : Tree) → HaveOwnRuns t u → HaveOwnRuns u t
HaveOwnRuns-flip t empty h = tt
HaveOwnRuns-flip t (rooted j m s ls) h = tt
HaveOwnRuns-flip empty (flat j s) h = tt
HaveOwnRuns-flip (rooted i k run ls) (flat j s) h = tt
HaveOwnRuns-flip (flat i run) (flat j s) h = λ e. h (sym e)

-- to stand apart goes both ways
pub AreApart-flip : (t u : Tree) → AreApart t u → AreApart u t
AreApart-flip t u h = record { nodes = IsApart-flip (links_of t) (links_of u) h.nodes; runs = HaveOwnRuns-flip t u h.runs }

HaveOwnRuns-new : (a : ArenaState) (t new u : Tree) → TakesNew a t new → HasRun a u → HaveOwnRuns u t → HaveOwnRuns u new
HaveOwnRuns-new a t new empty news h own = tt
HaveOwnRuns-new a t new (rooted i k run ls) news h own = tt
HaveOwnRuns-new a t new (flat i run) news h own = news.runs i (some-of (run_at a i) (λ r. r.elems ≡ run) h) own

-- a structure that was apart from the old tree is apart from the new one, whose further numbers were free
pub AreApart-new : (s : List NodeKind) (a : ArenaState) (st : Structure) (t new u : Tree) → TakesNew a t new → IsStanding s a st u → AreApart u t
    → AreApart u new
AreApart-new s a st t new u news h p = record {
  nodes = IsApart-new a (links_of t) (links_of new) (links_of u) news.nodes h.nodes p.nodes;
  runs = HaveOwnRuns-new a t new u news h.run p.runs;
}
