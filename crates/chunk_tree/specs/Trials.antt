-- For the tests alone: no public clause cites this module.
use Rattle.std.specs.Prelude.{◌≡◌, ◌≤◌, ◌<◌, ◌+◌, ℕ, suc, max, Bool, true, false, List, [], ◌∷◌, Some, None, slice_index_or}
use Rattle.node_arena.specs.declared.elements.Step.{Step}
use Rattle.node_arena.specs.declared.elements.Step.TheVariants.{Done, Pass}
use Rattle.node_arena.specs.declared.elements.Structure.{Structure}
use Rattle.node_arena.specs.declared.kinds.NodeKind.{NodeKind}
use Rattle.node_arena.specs.declared.kinds.Shape.TheVariants.{Flat, Post, Ends, Woven}
use Rattle.node_arena.specs.Arenas.{ArenaState}
use Rattle.node_arena.specs.Insertions.{Lacks}
use Rattle.node_arena.specs.Kinds.{shape_at}
use Rattle.node_arena.specs.Rules.{AreSound, Serves}
use Rattle.node_arena.specs.Structures.{Tree, walk_of, IsStructure}
use Rattle.node_arena.specs.Trees.{Trees, roots, Stands}

-- the one kind has two links to itself
pub record IsChunks (s : List NodeKind) : Type 0 where
  pub sound : AreSound s
  pub shape : shape_at s 0 ≡ Ends 0 0
  pub others : (k : ℕ) → shape_at s (suc k) ≡ Flat

-- a structure of kind 0 that lacks each coordinate that is marked as free, in an arena with nodes for so many more insertions
pub record IsGrown (s : List NodeKind) (a : ArenaState) (st : Structure) (free : List Bool) (more : ℕ) : Type 0 where
  pub tree : Tree
  pub holds : IsStructure s 0 a st tree
  pub lacks : (n : ℕ) → slice_index_or free n false ≡ true → Lacks n (walk_of s tree)
  pub serves : Serves s a
  pub spare : more ≤ a.nodes.spare
  pub few : st.len + more < 4095

-- the spine that is kept after an insertion: the depth that it told, where that is greater, and one more where it told none
abbrev pub spine_after : ℕ → Step → ℕ
spine_after n (Done None) = n + 1
spine_after n (Done (Some d)) = max n d
spine_after n (Pass i side xs above) = n + 1

-- a node with this number stands, with all that is reached from it
pub record IsRooted (a : ArenaState) (i : ℕ) : Type 0 where
  pub trees : Trees
  pub roots_are : roots trees ≡ Some i ∷ []
  pub stands : Stands a trees

-- the kinds `K { run 1..2 pre C post W }`, `C { run 1..8 post C }` and `W { run 2..4 woven }`
abbrev pub mixed_kinds : List NodeKind
mixed_kinds =
    record { lo = 1; hi = 2; shape = Ends 1 2 } ∷ record { lo = 1; hi = 8; shape = Post 1 }
    ∷ record { lo = 2; hi = 4; shape = Woven } ∷ []
