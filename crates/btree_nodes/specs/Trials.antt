-- For the tests alone: no public clause cites this module.
use Rattle.std.specs.Prelude.{◌≡◌, ◌≤◌, ◌<◌, ◌+◌, ◌*◌, ℕ, Bool, true, false, List, [], ◌∷◌, Some, slice_index_or}
use Rattle.node_arena.specs.declared.elements.Structure.{Structure}
use Rattle.node_arena.specs.declared.kinds.NodeKind.{NodeKind}
use Rattle.node_arena.specs.Arenas.{ArenaState}
use Rattle.node_arena.specs.Trees.{Trees, roots, Stands}
use Rattle.node_arena.specs.Structures.{Tree, walk_of, IsStanding, IsConforming}
use Rattle.node_arena.specs.Rules.{Serves}
use Rattle.node_arena.specs.Insertions.{Lacks}

-- a structure of kind 0 that lacks each coordinate that is marked as free, in an arena with nodes for so many more insertions
pub record IsGrown (s : List NodeKind) (a : ArenaState) (st : Structure) (free : List Bool) (more : ℕ) : Type 0 where
  pub tree : Tree
  pub stands : IsStanding s a st tree
  pub conforms : IsConforming s 0 st tree
  pub lacks : (n : ℕ) → slice_index_or free n false ≡ true → Lacks n (walk_of s tree)
  pub serves : Serves s a
  pub spare : 12 * more ≤ a.nodes.spare
  pub few : st.len + more < 4095

-- a node with this number stands, with all that is reached from it
pub record IsRooted (a : ArenaState) (i : ℕ) : Type 0 where
  pub trees : Trees
  pub roots_are : roots trees ≡ Some i ∷ []
  pub stands : Stands a trees
