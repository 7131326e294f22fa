-- Arenas that have the nodes and the runs that they had.
use Rattle.std.proofs.Common.{◌≡◌, ◌≢◌, ◌≤◌, ◌⊎◌, inl, inr, ℕ, true, false, eqb, List, get_or, Option, Some, None, refl, ap, ◌∙◌, sym, subst, arith}
use Rattle.std.specs.Prelude.{IfSome}
use Rattle.std.specs.Option.{IsSomeAnd}
use Rattle.std.proofs.lemmas.Bool.Decides.{eqb_tells}
use Rattle.node_arena.specs.declared.elements.Elem.{Elem}
use Rattle.node_arena.specs.declared.elements.Structure.{Structure}
use Rattle.node_arena.specs.declared.kinds.NodeKind.{NodeKind}
use Rattle.node_arena.specs.Arenas.{ArenaState, RunState, node_at, run_at, run_in}
use Rattle.node_arena.specs.Structures.{Tree, empty, rooted, flat, links_of, HasRun, IsStanding}
use Rattle.node_arena.specs.Trees.{Trees, done, absent, node, Stands}
use Rattle.nested_modes.specs.Preparing.{KeepsElems, HoldsSame, Gains}

-- ---- runs

KeepsElems-same : (o : Option RunState) → KeepsElems o o
KeepsElems-same None = refl
KeepsElems-same (Some r) = (refl, omega arith)

KeepsElems-is : (o p : Option RunState) → p ≡ o → KeepsElems o p
KeepsElems-is o p e = subst (KeepsElems o) (sym e) (KeepsElems-same o)

KeepsElems-then : (o p q : Option RunState) → KeepsElems o p → KeepsElems p q → KeepsElems o q
KeepsElems-then None None q h g = g
KeepsElems-then None (Some p) q h g = cc (h)
KeepsElems-then (Some r) None q h g = absurd h
KeepsElems-then (Some r) (Some p) None h g = absurd g
KeepsElems-then (Some r) (Some p) (Some q) h g = let a : r.room ≤ p.room = h.1 in let b : p.room ≤ q.room = g.1 in (g.0 ∙ h.0, omega arith)

-- ---- arenas

-- nothing is done
pub HoldsSame-same : (a : ArenaState) → HoldsSame a a
HoldsSame-same a = record { nodes = refl; runs = λ i. KeepsElems-same (run_at a i); most = refl }

-- first one call and then another one
pub HoldsSame-then : (a b c : ArenaState) → HoldsSame a b → HoldsSame b c → HoldsSame a c
HoldsSame-then a b c h g = record {
  nodes = g.nodes ∙ h.nodes;
  runs = λ i. KeepsElems-then (run_at a i) (run_at b i) (run_at c i) (h.runs i) (g.runs i);
  most = g.most ∙ h.most;
}

-- an arena gains nothing where nothing is done
pub Gains-same : (a : ArenaState) → Gains a a
Gains-same a = record { holds = HoldsSame-same a; nodes = omega arith; runs = omega arith; room = omega arith }

-- one gain after another is a gain
pub Gains-then : (a b c : ArenaState) → Gains a b → Gains b c → Gains a c
Gains-then a b c h g =
    let n : a.nodes.spare ≤ b.nodes.spare = h.nodes in
    let m : b.nodes.spare ≤ c.nodes.spare = g.nodes in
    let r : a.runs.spare ≤ b.runs.spare = h.runs in
    let q : b.runs.spare ≤ c.runs.spare = g.runs in
    let o : a.runs.room ≤ b.runs.room = h.room in
    let p : b.runs.room ≤ c.runs.room = g.room in
    record { holds = HoldsSame-then a b c h.holds g.holds; nodes = omega arith; runs = omega arith; room = omega arith }

-- memory for nodes is taken or not
pub HoldsSame-nodes : (a b : ArenaState) → b.nodes.slots ≡ a.nodes.slots → b.nodes.most ≡ a.nodes.most → b.runs ≡ a.runs → HoldsSame a b
HoldsSame-nodes a b n m r = record { nodes = n; runs = λ i. KeepsElems-is (run_at a i) (run_at b i) (ap (λ v. run_in v i) r); most = m }

-- the nodes are the same, and no fewer are spare
pub Gains-nodes : (a b : ArenaState) → b.nodes.slots ≡ a.nodes.slots → b.nodes.most ≡ a.nodes.most → b.runs ≡ a.runs
    → a.nodes.spare ≤ b.nodes.spare → Gains a b
Gains-nodes a b n m r l =
    let spare : b.runs.spare ≡ a.runs.spare = ap (λ v. v.spare) r in
    let room : b.runs.room ≡ a.runs.room = ap (λ v. v.room) r in
    record { holds = HoldsSame-nodes a b n m r; nodes = l; runs = omega arith; room = omega arith }

-- memory for runs is taken or not
pub HoldsSame-runs : (a b : ArenaState) → b.runs.slots ≡ a.runs.slots → b.nodes ≡ a.nodes → HoldsSame a b
HoldsSame-runs a b r n = record {
  nodes = ap (λ v. v.slots) n;
  runs = λ i. KeepsElems-is (run_at a i) (run_at b i) (ap (λ l. get_or l i None) r);
  most = ap (λ v. v.most) n;
}

-- the runs are the same, and no fewer are spare, with no less room
pub Gains-runs : (a b : ArenaState) → b.runs.slots ≡ a.runs.slots → b.nodes ≡ a.nodes → a.runs.spare ≤ b.runs.spare → a.runs.room ≤ b.runs.room → Gains a b
Gains-runs a b r n l m =
    let spare : b.nodes.spare ≡ a.nodes.spare = ap (λ v. v.spare) n in
    record { holds = HoldsSame-runs a b r n; nodes = omega arith; runs = l; room = m }

-- a run has more room
grown : (o p : Option RunState) → IfSome o (λ r. IsSomeAnd p (λ q. (q.elems ≡ r.elems) × (r.room ≤ q.room))) → IsSomeAnd o (λ r. Unit {0}) → KeepsElems o p
grown None p h g = absurd g
grown (Some r) p h g = h

-- one run has its elements and no less room, and all else is as before
pub HoldsSame-grown : (a b : ArenaState) (i : ℕ) → IsSomeAnd (run_at a i) (λ r. Unit {0})
    → IfSome (run_at a i) (λ r. IsSomeAnd (run_at b i) (λ q. (q.elems ≡ r.elems) × (r.room ≤ q.room)))
    → ((other : ℕ) → other ≢ i → run_at b other ≡ run_at a other) → b.nodes ≡ a.nodes → HoldsSame a b
HoldsSame-grown a b i there h others n = record { nodes = ap (λ v. v.slots) n; runs = λ j. pick j (eqb_tells j i); most = ap (λ v. v.most) n }
  where
    pick : (j : ℕ) → ((eqb j i ≡ true) × (j ≡ i)) ⊎ ((eqb j i ≡ false) × (j ≢ i)) → KeepsElems (run_at a j) (run_at b j)
    pick j (inl q) = subst (λ v. KeepsElems (run_at a v) (run_at b v)) (sym q.1) (grown (run_at a i) (run_at b i) h there)
    pick j (inr q) = KeepsElems-is (run_at a j) (run_at b j) (others j q.1)

-- an arena that holds the same, with as many spare nodes and runs, gains
pub Gains-grown : (a b : ArenaState) → HoldsSame a b → b.nodes ≡ a.nodes → b.runs.spare ≡ a.runs.spare → b.runs.room ≡ a.runs.room → Gains a b
Gains-grown a b h n s r =
    let spare : b.nodes.spare ≡ a.nodes.spare = ap (λ v. v.spare) n in
    record { holds = h; nodes = omega arith; runs = omega arith; room = omega arith }

-- ---- structures

Stands-same : (a b : ArenaState) (t : Trees) → ((i : ℕ) → node_at b i ≡ node_at a i) → Stands a t → Stands b t
Stands-same a b done e h = tt
Stands-same a b (absent t) e h = Stands-same a b t e h
Stands-same a b (node i k run ls t) e h = (e i ∙ h.0, Stands-same a b ls e h.1, Stands-same a b t e h.2)

elems-kept : (o p : Option RunState) (run : List Elem) → KeepsElems o p → IsSomeAnd o (λ r. r.elems ≡ run) → IsSomeAnd p (λ r. r.elems ≡ run)
elems-kept None p run k h = absurd h
elems-kept (Some r) None run k h = absurd k
elems-kept (Some r) (Some q) run k h = k.0 ∙ h

HasRun-same : (a b : ArenaState) (t : Tree) → HoldsSame a b → HasRun a t → HasRun b t
HasRun-same a b empty g h = tt
HasRun-same a b (rooted i k run ls) g h = tt
HasRun-same a b (flat i run) g h = elems-kept (run_at a i) (run_at b i) run (g.runs i) h

-- a structure stands as before
pub IsStanding-same : (s : List NodeKind) (a b : ArenaState) (st : Structure) (t : Tree) → HoldsSame a b → IsStanding s a st t → IsStanding s b st t
IsStanding-same s a b st t g h = record {
  top = h.top;
  nodes = Stands-same a b (links_of t) (λ i. ap (λ l. get_or l i None) g.nodes) h.nodes;
  once = h.once;
  run = HasRun-same a b t g h.run;
  counted = h.counted;
}
