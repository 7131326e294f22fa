-- What contracts see of an arena: the nodes and the flat runs under their numbers, and what is kept for more.
use Rattle.std.specs.Prelude.{◌≡◌, ◌≢◌, ◌≤◌, ◌<◌, ℕ, ◌+◌, ◌-◌, List, [], ◌∷◌, Option, Some, None, suc, IfSome, length, slice_get, slice_index_or, nat_le, nat_lt, if◌then◌else◌}
use Rattle.std.specs.List.{insert, remove}
use Rattle.std.specs.Option.{option_map}
use Rattle.node_arena.specs.declared.elements.Elem.{Elem}
use Rattle.node_arena.specs.declared.numbers.TheConstants.{NO_NUMBER}

-- ---- what is seen

-- a node: the number of its kind, its elements, and its links, each the number of a node or none
pub record NodeState : Type 0 where
  pub kind : ℕ
  pub run : List Elem
  pub links : List (Option ℕ)

-- the node or nothing under each number, how many more can be made without memory, how many elements fit into one, and for how many nodes
-- there is memory in all
pub record NodesState : Type 0 where
  pub slots : List (Option NodeState)
  pub spare : ℕ
  pub most : ℕ
  pub places : ℕ

-- a flat run: its elements, and how many more can be put in without memory
pub record RunState : Type 0 where
  pub elems : List Elem
  pub room : ℕ

-- the run or nothing under each number, how many more can be made without memory, the room of each of these, and for how many runs there is
-- memory in all
pub record RunsState : Type 0 where
  pub slots : List (Option RunState)
  pub spare : ℕ
  pub room : ℕ
  pub places : ℕ

-- the nodes and the flat runs of one mode
pub record ArenaState : Type 0 where
  pub nodes : NodesState
  pub runs : RunsState

-- for how many elements a node has places, where runs have up to this many: the least of 2, 4, 8 and 16 that suffices
abbrev pub places_for : ℕ → ℕ
places_for n = if nat_le n 2 then 2 else (if nat_le n 4 then 4 else (if nat_le n 8 then 8 else 16))

-- the node under a number, among all nodes
abbrev pub node_in : NodesState → ℕ → Option NodeState
node_in nodes id = slice_index_or nodes.slots id None

-- the flat run under a number, among all runs
abbrev pub run_in : RunsState → ℕ → Option RunState
run_in runs id = slice_index_or runs.slots id None

-- the node under a number
abbrev pub node_at : ArenaState → ℕ → Option NodeState
node_at a id = node_in a.nodes id

-- the flat run under a number
abbrev pub run_at : ArenaState → ℕ → Option RunState
run_at a id = run_in a.runs id

-- ---- one node or run changes

-- the nodes have this under the number, all others stay, and no memory is taken
pub record IsNodeChange (old new : NodesState) (id : ℕ) (slot : Option NodeState) : Type 0 where
  pub changed : node_in new id ≡ slot
  pub others : (other : ℕ) → other ≢ id → node_in new other ≡ node_in old other
  pub most : new.most ≡ old.most
  pub places : new.places ≡ old.places

-- the runs have this under the number, all others stay, and no memory for more runs is taken
pub record IsRunChange (old new : RunsState) (id : ℕ) (slot : Option RunState) : Type 0 where
  pub changed : run_in new id ≡ slot
  pub others : (other : ℕ) → other ≢ id → run_in new other ≡ run_in old other
  pub room : new.room ≡ old.room
  pub places : new.places ≡ old.places

-- the arena has this node under the number, and all other nodes and all runs stay
pub record ChangesNode (old new : ArenaState) (id : ℕ) (slot : Option NodeState) : Type 0 where
  pub node : IsNodeChange old.nodes new.nodes id slot
  pub runs : new.runs ≡ old.runs

-- the arena has this run under the number, and all other runs and all nodes stay
pub record ChangesRun (old new : ArenaState) (id : ℕ) (slot : Option RunState) : Type 0 where
  pub run : IsRunChange old.runs new.runs id slot
  pub nodes : new.nodes ≡ old.nodes

-- ---- a refusal

-- a refusal changes nothing but the memory; where that is for more nodes than there are numbers, none can be made any more
pub record RefusesNodes (old new : NodesState) : Type 0 where
  pub spare : new.spare ≡ (if nat_le new.places NO_NUMBER then old.spare else 0)
  pub rest : new ≡ record old { spare = new.spare; places = new.places }

-- a refusal changes nothing but the memory; where that is for more runs than there are numbers, none can be made any more
pub record RefusesRuns (old new : RunsState) : Type 0 where
  pub spare : new.spare ≡ (if nat_le new.places NO_NUMBER then old.spare else 0)
  pub rest : new ≡ record old { spare = new.spare; places = new.places }

-- ---- what is read and written in a node

-- how many elements come before the first one whose coordinate isn't below
abbrev pub place_in : ℕ → List Elem → ℕ
place_in at [] = 0
place_in at (e ∷ es) = if nat_lt e.at at then suc (place_in at es) else 0

-- the coordinate of the element at a place, if there is one
abbrev pub coordinate_at : List Elem → ℕ → Option ℕ
coordinate_at run place = option_map (λ e. e.at) (slice_get run place)

-- the links, with another one behind the one at a place
abbrev pub with_link : List (Option ℕ) → ℕ → Option ℕ → List (Option ℕ)
with_link links place None = links
with_link links place (Some right) = insert links (place + 1) (Some right)

-- the links without the one at a place
abbrev pub without_link : List (Option ℕ) → Option ℕ → List (Option ℕ)
without_link links None = links
without_link links (Some place) = remove links place

-- an element can go into the node at a place, and a link behind the one of that place if one is given, where a node has so many elements at most
abbrev pub CanInsert : NodeState → ℕ → ℕ → Option ℕ → Type 0
CanInsert n most place right =
    (place ≤ length n.run) × (length n.run < most) × IfSome right (λ _. (place < length n.links) × (length n.links ≤ most))

-- the node with an element put in at a place, and a link behind the one of that place
abbrev pub with_elem : NodeState → ℕ → Elem → Option ℕ → NodeState
with_elem n place elem right = record n { run = insert n.run place elem; links = with_link n.links place right }

-- the node without the element at a place, and without a link
abbrev pub without_elem : NodeState → ℕ → Option ℕ → NodeState
without_elem n place link = record n { run = remove n.run place; links = without_link n.links link }

-- the run with an element put in at a place, which takes from its room
abbrev pub with_more : RunState → ℕ → Elem → RunState
with_more r place elem = record { elems = insert r.elems place elem; room = r.room - 1 }

-- the run without the element at a place, which gives its room back
abbrev pub with_less : RunState → ℕ → RunState
with_less r place = record { elems = remove r.elems place; room = r.room + 1 }
