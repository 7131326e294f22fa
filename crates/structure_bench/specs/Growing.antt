-- A structure into which elements are put one by one. No public clause cites this module.
use Rattle.std.specs.Prelude.{◌≡◌, ◌≤◌, ℕ, Bool, true, false, List, slice_index_or}
use Rattle.node_arena.specs.declared.elements.Elem.{Elem}
use Rattle.node_arena.specs.declared.elements.Structure.{Structure}
use Rattle.node_arena.specs.declared.kinds.NodeKind.{NodeKind}
use Rattle.node_arena.specs.Arenas.{ArenaState}
use Rattle.node_arena.specs.Insertions.{Lacks, put_in}
use Rattle.node_arena.specs.Rules.{Serves}
use Rattle.node_arena.specs.Structures.{Tree, walk_of, IsStanding, IsConforming}

-- the new structure conforms, and has the same elements
pub record IsSame (s : List NodeKind) (k : ℕ) (b : ArenaState) (t : Tree) (new : Structure) : Type 0 where
  pub tree : Tree
  pub stands : IsStanding s b new tree
  pub conforms : IsConforming s k new tree
  pub walk_is : walk_of s tree ≡ walk_of s t

-- the new structure conforms, and has x put in
pub record TakesIn (s : List NodeKind) (k : ℕ) (b : ArenaState) (x : Elem) (t : Tree) (new : Structure) : Type 0 where
  pub tree : Tree
  pub stands : IsStanding s b new tree
  pub conforms : IsConforming s k new tree
  pub walk_is : walk_of s tree ≡ put_in x (walk_of s t)

-- the structure conforms, has none of the coordinates that are marked as free, and no more elements than turns were taken
pub record IsGrown (s : List NodeKind) (k : ℕ) (a : ArenaState) (st : Structure) (free : List Bool) (turns : ℕ) : Type 0 where
  pub tree : Tree
  pub stands : IsStanding s a st tree
  pub conforms : IsConforming s k st tree
  pub lacks : (n : ℕ) → slice_index_or free n false ≡ true → Lacks n (walk_of s tree)
  pub serves : Serves s a
  pub few : st.len ≤ turns
