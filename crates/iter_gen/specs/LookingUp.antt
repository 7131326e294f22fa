-- The element with a coordinate, and where it is.
use Rattle.std.specs.Prelude.{◌≡◌, ◌⊎◌, ℕ, List, [], ◌∷◌, Option, Some, None, if◌then◌else◌, nat_eq, slice_get}
use Rattle.node_arena.specs.declared.elements.Elem.{Elem}
use Rattle.node_arena.specs.declared.elements.Structure.{Structure}
use Rattle.node_arena.specs.declared.kinds.NodeKind.{NodeKind}
use Rattle.node_arena.specs.Arenas.{NodeState, RunState, ArenaState, node_at, run_at}
use Rattle.node_arena.specs.Structures.{Tree, empty, rooted, flat, links_of, walk_of, IsStanding, IsConforming}
use Rattle.node_arena.specs.Trees.{Trees, done, absent, node}
use Rattle.iter_gen.specs.declared.looking_up.Spot.{Spot}
use Rattle.iter_gen.specs.declared.looking_up.Spot.TheVariants as spots

-- ---- what is asked

-- the structure is a tree that stands in the arena and conforms to a kind
pub record CanBeRead (s : List NodeKind) (a : ArenaState) (st : Structure) : Type 0 where
  pub kind : ℕ
  pub tree : Tree
  pub stands : IsStanding s a st tree
  pub conforms : IsConforming s kind st tree

-- ---- the element

-- the first element with this coordinate, if there is one
abbrev pub elem_with : ℕ → List Elem → Option Elem
elem_with at [] = None
elem_with at (e ∷ es) = if nat_eq e.at at then Some e else elem_with at es

-- ---- the spot

-- the element of a node at a place, where there is the node and the place
abbrev pub elem_in : Option NodeState → ℕ → Option Elem
elem_in None place = None
elem_in (Some n) place = slice_get n.run place

-- the element of a flat run at a place, where there is the run and the place
abbrev pub elem_of_run : Option RunState → ℕ → Option Elem
elem_of_run None place = None
elem_of_run (Some r) place = slice_get r.elems place

-- the element at a spot, if there is one
abbrev pub elem_at : ArenaState → Spot → Option Elem
elem_at a (spots.Node i place) = elem_in (node_at a i) place
elem_at a (spots.Run i place) = elem_of_run (run_at a i) place

-- one of the nodes of the trees has this number
abbrev pub HasNode : ℕ → Trees → Type 0
HasNode i done = ⊥
HasNode i (absent rest) = HasNode i rest
HasNode i (node j k run ls rest) = (j ≡ i) ⊎ (HasNode i ls ⊎ HasNode i rest)

-- the tree is the flat run with this number
abbrev pub IsRun : ℕ → Tree → Type 0
IsRun i empty = ⊥
IsRun i (rooted j k run ls) = ⊥
IsRun i (flat j run) = j ≡ i

-- the spot is in a node of the tree, or in its run
abbrev pub IsSpotOf : Spot → Tree → Type 0
IsSpotOf (spots.Node i place) t = HasNode i (links_of t)
IsSpotOf (spots.Run i place) t = IsRun i t

-- the spot is the tree's, and at it is the element with this coordinate
pub record IsSpotWith (s : List NodeKind) (a : ArenaState) (at : ℕ) (t : Tree) (spot : Spot) : Type 0 where
  pub inside : IsSpotOf spot t
  pub elem : Elem
  pub there : elem_at a spot ≡ Some elem
  pub found : elem_with at (walk_of s t) ≡ Some elem

-- the spot of the element with this coordinate; none where the tree has no such element
abbrev pub IsFound : List NodeKind → ArenaState → ℕ → Tree → Option Spot → Type 0
IsFound s a at t None = elem_with at (walk_of s t) ≡ None
IsFound s a at t (Some spot) = IsSpotWith s a at t spot
