-- The nodes of trees as a list of numbers. No public clause cites this module.
use Rattle.std.specs.Prelude.{◌≡◌, ◌≤◌, ◌+◌, ℕ, List, [], ◌∷◌, map, length, Option, Some, None, IsSome}
use Rattle.node_arena.specs.Arenas.{ArenaState, node_at}
use Rattle.node_arena.specs.Insertions.{Misses}
use Rattle.node_arena.specs.Trees.{Trees, roots, Stands, Avoids, IsReachedOnce}
use Rattle.chunk_tree.specs.Balancing.{node_count}

-- the links that aren't absent
abbrev pub present : List (Option ℕ) → List ℕ
present [] = []
present (None ∷ links) = present links
present (Some i ∷ links) = i ∷ present links

-- each of the numbers has a node, and none comes twice
abbrev pub AreNodes : ArenaState → List ℕ → Type 0
AreNodes a [] = Unit {0}
AreNodes a (i ∷ is) = IsSome (node_at a i) × Misses i is × AreNodes a is

-- none of the numbers is in the trees
abbrev pub AllAvoid : Trees → List ℕ → Type 0
AllAvoid t [] = Unit {0}
AllAvoid t (i ∷ is) = Avoids i t × AllAvoid t is

-- this tree, of so many nodes at most, hangs at a link
pub record HangsAt (a : ArenaState) (link : Option ℕ) (most : ℕ) (t : Trees) : Type 0 where
  pub root : roots t ≡ link ∷ []
  pub stands : Stands a t
  pub once : IsReachedOnce t
  pub few : node_count t ≤ most

-- these are the numbers of the nodes of the trees, each once
pub record AreNumbersOf (a : ArenaState) (t : Trees) (ids : List ℕ) : Type 0 where
  pub nodes : AreNodes a ids
  pub all : (i : ℕ) → Misses i ids → Avoids i t
  pub only : (i : ℕ) → Avoids i t → Misses i ids
  pub counted : length ids ≡ node_count t

-- the links of some nodes were looked at, and at the numbers that come next hang the nodes that are left
pub record Lists (a : ArenaState) (t : Trees) (seen next : List ℕ) : Type 0 where
  pub row : Trees
  pub roots_are : roots row ≡ map Some next
  pub stands : Stands a row
  pub once : IsReachedOnce row
  pub nodes : AreNodes a seen
  pub apart : AllAvoid row seen
  pub all : (i : ℕ) → Misses i seen → Avoids i row → Avoids i t
  pub only : (i : ℕ) → Avoids i t → Misses i seen × Avoids i row
  pub counted : length seen + node_count row ≡ node_count t
