-- Which way an element goes at a node with two links.
use Rattle.std.specs.Prelude.{◌≡◌, ◌≤◌, ◌<◌, ◌⊎◌, ℕ, Bool, true, false, List, length, Option, Some, None, IsSome, unwrap_or, slice_index_or, ◌-◌, if◌then◌else◌}
use Rattle.node_arena.specs.declared.elements.Elem.{Elem}
use Rattle.node_arena.specs.declared.elements.Side.{Side}
use Rattle.node_arena.specs.declared.elements.Side.TheVariants.{Pre, Post}
use Rattle.node_arena.specs.declared.kinds.NodeKind.{NodeKind}
use Rattle.node_arena.specs.declared.kinds.Shape.{Shape}
use Rattle.node_arena.specs.declared.kinds.Shape.TheVariants as shapes
use Rattle.node_arena.specs.Arenas.{NodeState, coordinate_at}
use Rattle.node_arena.specs.Kinds.{shape_at}

-- ---- the two sides of a run

-- the coordinate of the first element; 0 where there is none
abbrev pub first_of : List Elem → ℕ
first_of run = unwrap_or (coordinate_at run 0) 0

-- the coordinate of the last element; 0 where there is none
abbrev pub last_of : List Elem → ℕ
last_of run = unwrap_or (coordinate_at run (length run - 1)) 0

-- the place of the link at a side, counted from 0
abbrev pub place_of : Side → ℕ
place_of Pre = 0
place_of Post = 1

-- the link of a node at a place
abbrev pub link_in : NodeState → ℕ → Option ℕ
link_in n place = slice_index_or n.links place None

-- the number of the kind at a side; 0 where there aren't two links
abbrev pub kind_on : Shape → Side → ℕ
kind_on shapes.Flat side = 0
kind_on (shapes.Post q) side = 0
kind_on (shapes.Ends p q) Pre = p
kind_on (shapes.Ends p q) Post = q
kind_on shapes.Woven side = 0

-- whether nodes have two links
abbrev pub has_two_links : Shape → Bool
has_two_links shapes.Flat = false
has_two_links (shapes.Post q) = false
has_two_links (shapes.Ends p q) = true
has_two_links shapes.Woven = false

-- nodes have two links
abbrev pub HasTwoLinks : Shape → Type 0
HasTwoLinks shape = has_two_links shape ≡ true

-- ---- the way of an element

-- The side to which an element with this coordinate goes, or none where it goes into the run, of a node whose run has at most hi elements.
-- It goes to a side that it lies on where something is there, or where the run is full.
abbrev pub Takes : ℕ → ℕ → NodeState → Option Side → Type 0
Takes hi at n None =
    ((first_of n.run ≤ at) ⊎ ((length n.run < hi) × (link_in n 0 ≡ None)))
    × ((at ≤ last_of n.run) ⊎ ((length n.run < hi) × (link_in n 1 ≡ None)))
Takes hi at n (Some Pre) = (at < first_of n.run) × ((hi ≤ length n.run) ⊎ IsSome (link_in n 0))
Takes hi at n (Some Post) = (last_of n.run < at) × ((hi ≤ length n.run) ⊎ IsSome (link_in n 1))

-- the node with two links to which the way leads, if there is one
abbrev pub next_on : List NodeKind → NodeState → Option Side → Option ℕ
next_on s n None = None
next_on s n (Some side) = if has_two_links (shape_at s (kind_on (shape_at s n.kind) side)) then link_in n (place_of side) else None
