-- How few nodes an insertion writes.
use Rattle.std.specs.Prelude.{◌≤◌, ◌+◌, ◌*◌, ◌^◌, ℕ, List}
use Rattle.node_arena.specs.declared.kinds.NodeKind.{NodeKind}
use Rattle.node_arena.specs.Arenas.{ArenaState}
use Rattle.node_arena.specs.Conforming.{height}
use Rattle.node_arena.specs.Structures.{Tree, links_of}
use Rattle.node_arena.specs.Insertions.{DifferInFew}

-- how many nodes lie below one another in the tree
abbrev pub height_of : List NodeKind → Tree → ℕ
height_of s t = height s (links_of t)

-- at most two ticks for each level and one more were taken, and no more nodes differ; a tree of len elements is no higher than its digits allow
pub record WritesFew (s : List NodeKind) (a b : ArenaState) (t : Tree) (len old new : ℕ) : Type 0 where
  pub low : 2 ^ height_of s t ≤ len + 1
  pub steps : new ≤ old + 2 * height_of s t + 1
  pub differ : DifferInFew (2 * height_of s t + 1) a b
