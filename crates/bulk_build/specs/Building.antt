-- What a call that builds a structure does to an arena.
use Rattle.std.specs.Prelude.{◌≡◌, ◌≤◌, ◌<◌, ◌+◌, ◌*◌, ◌^◌, ℕ, List, length}
use Rattle.node_arena.specs.declared.elements.Elem.{Elem}
use Rattle.node_arena.specs.declared.elements.Structure.{Structure}
use Rattle.node_arena.specs.declared.kinds.NodeKind.{NodeKind}
use Rattle.node_arena.specs.Arenas.{ArenaState, node_at, run_at}
use Rattle.node_arena.specs.Trees.{Avoids}
use Rattle.node_arena.specs.Structures.{Tree, empty, links_of, walk_of, AvoidsRun, IsStanding, IsConforming, Keeps, TakesNew}

-- a number of d binary digits is at most n, or d is 0
abbrev pub ReachesDigits : ℕ → ℕ → Type 0
ReachesDigits n d = 2 ^ d ≤ 2 * n + 1

-- a new structure of this kind has these elements; its numbers are new, every node and run that was there is as before, and no other is new
pub record IsBuilt (s : List NodeKind) (k : ℕ) (a b : ArenaState) (es : List Elem) (st : Structure) : Type 0 where
  pub tree : Tree
  pub stands : IsStanding s b st tree
  pub conforms : IsConforming s k st tree
  pub walk_is : walk_of s tree ≡ es
  pub spine_low : ReachesDigits (length es) st.spine
  pub keeps : Keeps a b empty
  pub news : TakesNew a empty tree
  pub other_nodes : (i : ℕ) → Avoids i (links_of tree) → node_at b i ≡ node_at a i
  pub other_runs : (i : ℕ) → AvoidsRun i tree → run_at b i ≡ run_at a i

-- the nodes and runs are the same, and no others
pub record IsAsBefore (a b : ArenaState) : Type 0 where
  pub nodes : (i : ℕ) → node_at b i ≡ node_at a i
  pub runs : (i : ℕ) → run_at b i ≡ run_at a i

-- at most m nodes and n runs fewer are spare than before, and spare runs have at least the room that they had
pub record Spends (a b : ArenaState) (m n : ℕ) : Type 0 where
  pub nodes : a.nodes.spare ≤ b.nodes.spare + m
  pub runs : a.runs.spare ≤ b.runs.spare + n
  pub room : a.runs.room ≤ b.runs.room

-- its memory is for no more nodes and no more runs than there are numbers of 32 bits for them
abbrev pub CanBeNumbered : ArenaState → Type 0
CanBeNumbered a = (a.nodes.places < 4294967296) × (a.runs.places < 4294967296)
