-- Structures: what stands below a top, and when it conforms.
use Rattle.std.specs.Prelude.{◌≡◌, ◌≢◌, ◌≤◌, ℕ, List, [], length, IsSome}
use Rattle.std.specs.Option.{IsSomeAnd}
use Rattle.node_arena.specs.declared.elements.Elem.{Elem}
use Rattle.node_arena.specs.declared.elements.Structure.{Structure}
use Rattle.node_arena.specs.declared.elements.Top.{Top}
use Rattle.node_arena.specs.declared.elements.Top.TheVariants as tops
use Rattle.node_arena.specs.declared.elements.TheConstants.{MOST_SPINE}
use Rattle.node_arena.specs.declared.kinds.NodeKind.{NodeKind}
use Rattle.node_arena.specs.declared.kinds.Shape.TheVariants.{Flat}
use Rattle.node_arena.specs.Arenas.{ArenaState, run_at}
use Rattle.node_arena.specs.Kinds.{shape_at}
use Rattle.node_arena.specs.Trees.{Trees, done, absent, node, Stands, IsApart, IsReachedOnce, KeepsOutside, TakesFree, ChangesOnly}
use Rattle.node_arena.specs.Walks.{walk}
use Rattle.node_arena.specs.Conforming.{Conform, IsRising, spine}

-- the tree of a structure: nothing, a node with its number, kind, run and links, or a flat run with its number
pub data Tree : Type 0 where
  empty : Tree
  rooted : ℕ → ℕ → List Elem → Trees → Tree
  flat : ℕ → List Elem → Tree

-- the nodes of a tree as links in a row: one, or none for a flat run
abbrev pub links_of : Tree → Trees
links_of empty = absent done
links_of (rooted i k run ls) = node i k run ls done
links_of (flat i run) = done

-- the top that names the root
abbrev pub top_of : Tree → Top
top_of empty = tops.Empty
top_of (rooted i k run ls) = tops.Node i
top_of (flat i run) = tops.Run i

-- the elements in order
abbrev pub walk_of : List NodeKind → Tree → List Elem
walk_of s empty = []
walk_of s (rooted i k run ls) = walk s (node i k run ls done)
walk_of s (flat i run) = run

-- the spine of the tree, which is 0 for an empty one and for a flat run
abbrev pub spine_of : List NodeKind → Tree → ℕ
spine_of s t = spine s (links_of t)

-- ---- standing in an arena

-- the flat run, if the tree is one, stands in the arena under its number
abbrev pub HasRun : ArenaState → Tree → Type 0
HasRun a empty = Unit {0}
HasRun a (rooted i k run ls) = Unit {0}
HasRun a (flat i run) = IsSomeAnd (run_at a i) (λ r. r.elems ≡ run)

-- the structure is this tree, whose nodes and run stand in the arena, none of them reached twice
pub record IsStanding (s : List NodeKind) (a : ArenaState) (st : Structure) (t : Tree) : Type 0 where
  pub top : st.top ≡ top_of t
  pub nodes : Stands a (links_of t)
  pub once : IsReachedOnce (links_of t)
  pub run : HasRun a t
  pub counted : length (walk_of s t) ≡ st.len

-- ---- conforming

-- the tree is a structure of this kind
abbrev pub ConformTree : List NodeKind → ℕ → Tree → Type 0
ConformTree s k empty = Unit {0}
ConformTree s k (rooted i m run ls) = (shape_at s k ≢ Flat) × Conform s k (node i m run ls done)
ConformTree s k (flat i run) = (shape_at s k ≡ Flat) × (1 ≤ length run) × IsRising run

-- the structure's tree conforms, and its spine is at most the one that is kept, which is at most MOST_SPINE
pub record IsConforming (s : List NodeKind) (k : ℕ) (st : Structure) (t : Tree) : Type 0 where
  pub tree : ConformTree s k t
  pub spine_kept : spine_of s t ≤ st.spine
  pub spine_low : st.spine ≤ MOST_SPINE

-- the structure is this tree, which stands in the arena and conforms with the kind
pub record IsStructure (s : List NodeKind) (k : ℕ) (a : ArenaState) (st : Structure) (t : Tree) : Type 0 where
  pub stands : IsStanding s a st t
  pub conforms : IsConforming s k st t

-- ---- apart from one another

-- the tree isn't the flat run with this number
abbrev pub AvoidsRun : ℕ → Tree → Type 0
AvoidsRun i empty = Unit {0}
AvoidsRun i (rooted j k run ls) = Unit {0}
AvoidsRun i (flat j run) = j ≢ i

-- the trees aren't flat runs with one number
abbrev pub HaveOwnRuns : Tree → Tree → Type 0
HaveOwnRuns empty u = Unit {0}
HaveOwnRuns (rooted i k run ls) u = Unit {0}
HaveOwnRuns (flat i run) u = AvoidsRun i u

-- no node and no run is in both
pub record AreApart (t u : Tree) : Type 0 where
  pub nodes : IsApart (links_of t) (links_of u)
  pub runs : HaveOwnRuns t u

-- each node and each run outside the tree is as before
pub record Keeps (old new : ArenaState) (t : Tree) : Type 0 where
  pub nodes : KeepsOutside old new (links_of t)
  pub runs : (i : ℕ) → IsSome (run_at old i) → AvoidsRun i t → run_at new i ≡ run_at old i

-- the new tree has the numbers of the old one, and numbers that were free
pub record TakesNew (a : ArenaState) (old new : Tree) : Type 0 where
  pub nodes : TakesFree a (links_of old) (links_of new)
  pub runs : (i : ℕ) → IsSome (run_at a i) → AvoidsRun i old → AvoidsRun i new

-- the same of flat runs: every other run is as before, and the new tree is the run that the old one was, or one with a free number
pub record ChangesOnlyRun (a b : ArenaState) (old new : Tree) : Type 0 where
  pub others : (i : ℕ) → AvoidsRun i old → AvoidsRun i new → run_at b i ≡ run_at a i
  pub stays : (i : ℕ) → AvoidsRun i new → AvoidsRun i old
  pub news : (i : ℕ) → IsSome (run_at a i) → AvoidsRun i old → AvoidsRun i new

-- the tree has become another one, and nothing else has: no node and no run of neither differs, and none of the old tree is left over
pub record ChangesOnlyTree (a b : ArenaState) (old new : Tree) : Type 0 where
  pub nodes : ChangesOnly a b (links_of old) (links_of new)
  pub runs : ChangesOnlyRun a b old new
