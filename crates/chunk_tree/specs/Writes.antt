-- What is written at the node at which the way of an element ends. No public clause cites this module.
use Rattle.std.specs.Prelude.{◌≡◌, ◌≢◌, ◌≤◌, ◌<◌, ◌+◌, ◌/◌, ◌⊎◌, ℕ, true, false, List, [], ◌∷◌, ◌++◌, length, Option, Some, None, is_some}
use Rattle.node_arena.specs.declared.elements.Elem.{Elem}
use Rattle.node_arena.specs.declared.elements.Side.{Side}
use Rattle.node_arena.specs.declared.elements.Side.TheVariants.{Pre, Post}
use Rattle.node_arena.specs.declared.elements.Step.{Step}
use Rattle.node_arena.specs.declared.elements.Step.TheVariants.{Done, Pass}
use Rattle.node_arena.specs.declared.kinds.NodeKind.{NodeKind}
use Rattle.node_arena.specs.declared.kinds.Shape.{Shape}
use Rattle.node_arena.specs.declared.kinds.Shape.TheVariants as shapes
use Rattle.node_arena.specs.Arenas.{ArenaState, NodeState, node_at, ChangesNode}
use Rattle.node_arena.specs.Insertions.{put_in}
use Rattle.node_arena.specs.Kinds.{kind_at, shape_at}
use Rattle.node_arena.specs.Passing.{wedge_depth}
use Rattle.chunk_tree.specs.Ways.{link_in, kind_on, has_two_links}

-- ---- before and behind a write

-- the node's run is as its kind has it, and such runs fit into the arena's nodes
pub record HasKindsRun (s : List NodeKind) (a : ArenaState) (n : NodeState) : Type 0 where
  pub high : length n.run ≤ (kind_at s n.kind).hi
  pub some : 1 ≤ (kind_at s n.kind).hi
  pub few : (kind_at s n.kind).hi ≤ 16
  pub serves : (kind_at s n.kind).hi ≤ a.nodes.most

-- so many nodes were made without memory, and the runs, the memory and the size of nodes are as before
pub record Spends (a b : ArenaState) (n : ℕ) : Type 0 where
  pub spare : b.nodes.spare + n ≡ a.nodes.spare
  pub runs : b.runs ≡ a.runs
  pub most : b.nodes.most ≡ a.nodes.most
  pub places : b.nodes.places ≡ a.nodes.places

-- ---- into the run

-- the run has room, and x is in it
pub record Fits (s : List NodeKind) (x : Elem) (a b : ArenaState) (i : ℕ) (n : NodeState) : Type 0 where
  pub room : length n.run < (kind_at s n.kind).hi
  pub puts : ChangesNode a b i (Some (record n { run = put_in x n.run }))

-- a full run with x is parted: the lower part has one element more where their number is odd
pub record IsParted (s : List NodeKind) (x : Elem) (n : NodeState) (lower upper : List Elem) : Type 0 where
  pub full : (kind_at s n.kind).hi ≤ length n.run
  pub both : put_in x n.run ≡ lower ++ upper
  pub keep : length lower ≡ (kind_at s n.kind).hi / 2 + 1

-- the links of a new node of a kind with these links, before an old structure
abbrev pub links_before : Shape → Option ℕ → List (Option ℕ)
links_before shapes.Flat link = link ∷ []
links_before (shapes.Post q) link = link ∷ []
links_before (shapes.Ends p q) link = None ∷ link ∷ []
links_before shapes.Woven link = link ∷ []

-- the run is parted, and the upper part is a new node's, between the node and what was behind it
pub record Wedges (s : List NodeKind) (x : Elem) (a b : ArenaState) (i : ℕ) (n : NodeState) (j : ℕ) : Type 0 where
  pub lower : List Elem
  pub upper : List Elem
  pub between : ArenaState
  pub kind : ℕ
  pub kind_is : kind ≡ kind_on (shape_at s n.kind) Post
  pub parts : IsParted s x n lower upper
  pub free : node_at a j ≡ None
  pub makes : ChangesNode a between j (Some (record { kind = kind; run = upper; links = links_before (shape_at s kind) (link_in n 1) }))
  pub puts : ChangesNode between b i (Some (record { kind = n.kind; run = lower; links = link_in n 0 ∷ Some j ∷ [] }))

-- the run is parted, and the upper part is taken out
pub record Cuts (s : List NodeKind) (x : Elem) (a b : ArenaState) (i : ℕ) (n : NodeState) (upper : List Elem) : Type 0 where
  pub lower : List Elem
  pub parts : IsParted s x n lower upper
  pub puts : ChangesNode a b i (Some (record { kind = n.kind; run = lower; links = link_in n 0 ∷ link_in n 1 ∷ [] }))

-- so many nodes were made, and so many written, made ones too
abbrev pub Costs : ArenaState → ArenaState → ℕ → ℕ → ℕ → ℕ → Type 0
Costs a b made written before now = Spends a b made × (now ≡ before + written)

-- x is in the run, or what it pushes out is in a new node, or is passed on; so many nodes with two links are above
abbrev pub GoesInside : List NodeKind → Elem → ArenaState → ArenaState → ℕ → NodeState → ℕ → Step → ℕ → ℕ → Type 0
GoesInside s x a b i n above (Done deep) before now =
    (Fits s x a b i n × Costs a b 0 1 before now × (deep ≡ Some 0))
    ⊎ ((shape_at s (kind_on (shape_at s n.kind) Post) ≢ shapes.Woven) × ((j : ℕ) × Wedges s x a b i n j) × Costs a b 1 2 before now
    × (deep ≡ wedge_depth (shape_at s (kind_on (shape_at s n.kind) Post)) (is_some (link_in n 1)) (above + 1)))
GoesInside s x a b i n above (Pass m side xs over) before now =
    (m ≡ i) × (side ≡ Post) × (shape_at s (kind_on (shape_at s n.kind) Post) ≡ shapes.Woven) × Cuts s x a b i n xs.items × Costs a b 0 1 before now
    × (over ≡ above + 1)

-- ---- beside the run

-- the links of a node with two links, with this one at a side
abbrev pub with_link_on : NodeState → Side → ℕ → List (Option ℕ)
with_link_on n Pre j = Some j ∷ link_in n 1 ∷ []
with_link_on n Post j = link_in n 0 ∷ Some j ∷ []

-- x alone is in a new node with two links, at this side of the node
pub record Hangs (s : List NodeKind) (x : Elem) (a b : ArenaState) (i : ℕ) (n : NodeState) (side : Side) (j : ℕ) : Type 0 where
  pub between : ArenaState
  pub kind : ℕ
  pub kind_is : kind ≡ kind_on (shape_at s n.kind) side
  pub free : node_at a j ≡ None
  pub makes : ChangesNode a between j (Some (record { kind = kind; run = x ∷ []; links = None ∷ None ∷ [] }))
  pub puts : ChangesNode between b i (Some (record n { links = with_link_on n side j }))

-- x is in a new node, or is passed on where nodes at this side haven't two links; so many nodes with two links are above
abbrev pub GoesBeside : List NodeKind → Elem → ArenaState → ArenaState → ℕ → NodeState → Side → ℕ → Step → ℕ → ℕ → Type 0
GoesBeside s x a b i n side above (Done deep) before now =
    (has_two_links (shape_at s (kind_on (shape_at s n.kind) side)) ≡ true) × ((j : ℕ) × Hangs s x a b i n side j) × Costs a b 1 2 before now
    × (deep ≡ Some (above + 2))
GoesBeside s x a b i n side above (Pass m to xs over) before now =
    (m ≡ i) × (to ≡ side) × (has_two_links (shape_at s (kind_on (shape_at s n.kind) side)) ≡ false) × (b ≡ a) × (xs.items ≡ x ∷ []) × (now ≡ before)
    × (over ≡ above + 1)
