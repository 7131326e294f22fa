-- The nodes of a tree in the order of its walk, linked anew into a tree with few levels. No public clause cites this module.
use Rattle.std.specs.Prelude.{◌≡◌, ◌≢◌, ◌≤◌, ◌<◌, ◌-◌, ◌^◌, ℕ, List, [], ◌∷◌, ◌++◌, map, length, Option, Some, None}
use Rattle.node_arena.specs.declared.elements.Elem.{Elem}
use Rattle.node_arena.specs.declared.elements.Top.{Top}
use Rattle.node_arena.specs.declared.elements.Top.TheVariants as tops
use Rattle.node_arena.specs.Arenas.{ArenaState, node_at}
use Rattle.node_arena.specs.Trees.{Trees, done, absent, node, roots, Stands, IsReachedOnce}

-- ---- cells

-- a node without its links: its number, kind and run
pub record Cell : Type 0 where
  pub at : ℕ
  pub kind : ℕ
  pub run : List Elem

-- the numbers of the cells
abbrev pub numbers_of : List Cell → List ℕ
numbers_of cs = map (λ c. c.at) cs

-- the cell stands in the arena, with some links
abbrev pub CellStands : ArenaState → Cell → Type 0
CellStands a c = (links : List (Option ℕ)) × (node_at a c.at ≡ Some (record { kind = c.kind; run = c.run; links = links }))

-- each cell does
abbrev pub AllStand : ArenaState → List Cell → Type 0
AllStand a [] = Unit {0}
AllStand a (c ∷ cs) = CellStands a c × AllStand a cs

-- no cell has this number
abbrev pub Without : ℕ → List Cell → Type 0
Without j [] = Unit {0}
Without j (c ∷ cs) = (c.at ≢ j) × Without j cs

-- no number comes twice
abbrev pub AreDistinct : List Cell → Type 0
AreDistinct [] = Unit {0}
AreDistinct (c ∷ cs) = Without c.at cs × AreDistinct cs

-- ---- the cells of a tree

-- the cells of several rows, one after another
abbrev pub joined_rows : List (List Cell) → List Cell
joined_rows [] = []
joined_rows (w ∷ ws) = w ++ joined_rows ws

-- a cell between the first row and the others
abbrev pub around : Cell → List (List Cell) → List Cell
around c [] = c ∷ []
around c (w ∷ ws) = w ++ c ∷ joined_rows ws

-- the cells of each tree
abbrev pub rows : Trees → List (List Cell)
rows done = []
rows (absent rest) = [] ∷ rows rest
rows (node i k run ls rest) = around (record { at = i; kind = k; run = run }) (rows ls) ∷ rows rest

-- the cells of trees with two links, in the order of the walk
abbrev pub cells : Trees → List Cell
cells t = joined_rows (rows t)

-- each node has two links, and at most so many nodes lie below one another
abbrev pub IsNarrow : ℕ → Trees → Type 0
IsNarrow levels done = Unit {0}
IsNarrow levels (absent rest) = IsNarrow levels rest
IsNarrow levels (node i k run ls rest) = (1 ≤ levels) × (length (roots ls) ≡ 2) × IsNarrow (levels - 1) ls × IsNarrow levels rest

-- the tree at a link
pub record IsAt (a : ArenaState) (link : Option ℕ) (levels : ℕ) (t : Trees) : Type 0 where
  pub root : roots t ≡ link ∷ []
  pub stands : Stands a t
  pub narrow : IsNarrow levels t

-- ---- linked anew

-- the cells stand under these numbers, each of them once
pub record IsLaid (a : ArenaState) (ids : List ℕ) (cs : List Cell) : Type 0 where
  pub ids_are : ids ≡ numbers_of cs
  pub stand : AllStand a cs
  pub distinct : AreDistinct cs

-- the cells are one tree, in their order, with as few levels as there can be
pub record IsLinked (a b : ArenaState) (cs : List Cell) (top : Option ℕ) : Type 0 where
  pub tree : Trees
  pub root : roots tree ≡ top ∷ []
  pub stands : Stands b tree
  pub once : IsReachedOnce tree
  pub cells_are : cells tree ≡ cs
  pub narrow : (d : ℕ) → length cs < 2 ^ d → IsNarrow d tree
  pub keeps : (j : ℕ) → Without j cs → node_at b j ≡ node_at a j

-- ---- tops and roots

-- the root at a top, if it is a node
abbrev pub root_at : Top → Option ℕ
root_at tops.Empty = None
root_at (tops.Node i) = Some i
root_at (tops.Run i) = None

-- the top at a root
abbrev pub top_at : Option ℕ → Top
top_at None = tops.Empty
top_at (Some i) = tops.Node i
