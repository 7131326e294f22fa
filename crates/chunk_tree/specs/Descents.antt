-- The way of an element down a tree of nodes with two links. No public clause cites this module.
use Rattle.std.specs.Prelude.{◌≡◌, ◌≤◌, ◌+◌, ℕ, List, length, Option, Some, None}
use Rattle.node_arena.specs.declared.elements.Elem.{Elem}
use Rattle.node_arena.specs.declared.elements.Side.{Side}
use Rattle.node_arena.specs.declared.kinds.NodeKind.{NodeKind}
use Rattle.node_arena.specs.declared.kinds.Shape.TheVariants.{Ends}
use Rattle.node_arena.specs.Arenas.{ArenaState, NodeState, node_at}
use Rattle.node_arena.specs.Conforming.{Conform, spine}
use Rattle.node_arena.specs.Insertions.{Lacks}
use Rattle.node_arena.specs.Kinds.{kind_at, shape_at}
use Rattle.node_arena.specs.Passing.{IsDone, deeper}
use Rattle.node_arena.specs.Trees.{Trees, done, node, Stands, IsReachedOnce}
use Rattle.node_arena.specs.Walks.{walk}
use Rattle.chunk_tree.specs.Ways.{Takes, next_on}

-- node i is the root of this tree, whose root has two links
pub record Chunks (s : List NodeKind) (a : ArenaState) (i : ℕ) (t : Trees) : Type 0 where
  pub kind : ℕ
  pub run : List Elem
  pub links : Trees
  pub is : t ≡ node i kind run links done
  pub pre : ℕ
  pub post : ℕ
  pub shape : shape_at s kind ≡ Ends pre post
  pub stands : Stands a t
  pub once : IsReachedOnce t
  pub conforms : Conform s kind t

-- what is done to the inner tree is done to the outer one, in which it lies below so many nodes with two links
pub record IsWithin (s : List NodeKind) (a : ArenaState) (x : Elem) (above : ℕ) (inner outer : Trees) : Type 0 where
  pub lift : (b : ArenaState) (deep : Option ℕ) → IsDone s a b x inner deep → IsDone s a b x outer (deeper above deep)
  pub lacks : Lacks x.at (walk s outer) → Lacks x.at (walk s inner)
  pub spine_low : above + spine s inner ≤ spine s outer
  pub fewer : length (walk s inner) ≤ length (walk s outer)

-- the way has come to this node, below so many others
pub record Comes (s : List NodeKind) (a : ArenaState) (x : Elem) (i above : ℕ) (t : Trees) : Type 0 where
  pub tree : Trees
  pub chunks : Chunks s a i tree
  pub within : IsWithin s a x above tree t

-- the way ends at this node, below so many others
pub record Finds (s : List NodeKind) (a : ArenaState) (x : Elem) (i : ℕ) (way : Option Side) (above : ℕ) (t : Trees) : Type 0 where
  pub comes : Comes s a x i above t
  pub old : NodeState
  pub there : node_at a i ≡ Some old
  pub takes : Takes (kind_at s old.kind).hi x.at old way
  pub ends : next_on s old way ≡ None
