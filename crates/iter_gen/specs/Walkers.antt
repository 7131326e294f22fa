-- What contracts see of a walker, and the elements that it has left.
use Rattle.std.specs.Prelude.{◌≡◌, List, Option, Some, None, drop, slice_get}
use Rattle.dt_model.specs.declared.declared_tensors.Schema.{Schema}
use Rattle.node_arena.specs.declared.elements.Elem.{Elem}
use Rattle.node_arena.specs.declared.elements.Structure.{Structure}
use Rattle.node_arena.specs.declared.kinds.NodeKind.{NodeKind}
use Rattle.node_arena.specs.Arenas.{ArenaState}
use Rattle.node_arena.specs.Conforming.{IsRising}
use Rattle.node_arena.specs.Kinds.{kinds_of, root_of}
use Rattle.node_arena.specs.Structures.{Tree, IsStanding, IsConforming}
use Rattle.iter_gen.specs.declared.paths.RunSpot.{RunSpot}
use Rattle.iter_gen.specs.declared.paths.NodeSpot.{NodeSpot}
use Rattle.iter_gen.specs.Frames.{PathHas, RunHas}

-- the structure is this tree in the arena, and conforms to the schema
pub record Conforms (s : Schema) (a : ArenaState) (top : Structure) (t : Tree) : Type 0 where
  pub stands : IsStanding (kinds_of s) a top t
  pub conforms : IsConforming (kinds_of s) (root_of s) top t

-- the structure stands in the arena and conforms to the schema
abbrev pub CanBeWalked : Schema → ArenaState → Structure → Type 0
CanBeWalked s a top = ∥ ((t : Tree) × Conforms s a top t) ∥₁

-- a walker: the schema of its code, the arena, and the place in a flat run or the path of places in nodes
pub record WalkerState : Type 0 where
  pub code : Schema
  pub arena : ArenaState
  pub run : Option RunSpot
  pub path : List NodeSpot

-- the run or the path has these elements left
abbrev pub Has : List NodeKind → ArenaState → Option RunSpot → List NodeSpot → List Elem → Type 0
Has s a None path xs = PathHas s a path xs
Has s a (Some spot) path xs = RunHas a spot xs

-- these elements are left, and they rise
pub record AreLeft (w : WalkerState) (xs : List Elem) : Type 0 where
  pub has : Has (kinds_of w.code) w.arena w.run w.path xs
  pub rising : IsRising xs

-- the first of these elements is answered, none where there is none, and the others are left
pub record TakesFirst (new : WalkerState) (result : Option Elem) (xs : List Elem) : Type 0 where
  pub first : result ≡ slice_get xs 0
  pub others : AreLeft new (drop 1 xs)
