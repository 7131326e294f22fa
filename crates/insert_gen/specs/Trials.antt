-- For the tests alone: no public clause cites this module.
use Rattle.std.specs.Prelude.{◌≡◌, ℕ, Bool, true, false, List, slice_index_or, IsSome}
use Rattle.node_arena.specs.declared.elements.Structure.{Structure}
use Rattle.node_arena.specs.declared.elements.Top.{Top}
use Rattle.node_arena.specs.declared.elements.Top.TheVariants as tops
use Rattle.node_arena.specs.declared.kinds.NodeKind.{NodeKind}
use Rattle.node_arena.specs.Arenas.{ArenaState, node_at, run_at}
use Rattle.node_arena.specs.Insertions.{Lacks}
use Rattle.node_arena.specs.Rules.{Serves}
use Rattle.node_arena.specs.Structures.{Tree, walk_of, IsStanding, IsConforming}
use Rattle.btree_nodes.specs.Trials.{IsRooted}

-- what begins at the top stands in the arena
abbrev pub IsReadable : ArenaState → Top → Type 0
IsReadable a tops.Empty = Unit {0}
IsReadable a (tops.Node i) = IsSome (node_at a i) × IsRooted a i
IsReadable a (tops.Run i) = IsSome (run_at a i)

-- a structure of kind k that lacks each coordinate that is marked as free
pub record IsGrown (s : List NodeKind) (k : ℕ) (a : ArenaState) (st : Structure) (free : List Bool) : Type 0 where
  pub tree : Tree
  pub stands : IsStanding s a st tree
  pub conforms : IsConforming s k st tree
  pub lacks : (n : ℕ) → slice_index_or free n false ≡ true → Lacks n (walk_of s tree)
  pub serves : Serves s a
