-- Slabs of nodes and runs, for the proofs alone: no public clause cites this module.
use Rattle.std.specs.Prelude.{◌≡◌, ◌≢◌, ◌-◌, ℕ, List, [], Option, Some, if◌then◌else◌, nat_le}
use Rattle.slab.specs.Slab.{Slab, slab_len, get}
use Rattle.node_arena.specs.Arenas.{NodeState, NodesState, RunState}
use Rattle.node_arena.specs.declared.numbers.TheConstants.{NO_NUMBER}
use Rattle.node_arena.specs.declared.stores.Store.{Store}
use Rattle.node_arena.specs.declared.stores.Store.TheVariants.{Two, Four, Eight, Sixteen}

-- how many values can be numbered in a slab of this capacity: all, or none where a number could have more than 32 bits or be NO_NUMBER
abbrev pub usable : ℕ → ℕ
usable n = if nat_le n NO_NUMBER then n else 0

-- one value is altered, and all others stay
pub record Alters {T : Type 0} (old new : Slab T) (id : ℕ) (value : T) : Type 0 where
  pub changed : get new id ≡ Some value
  pub others : (other : ℕ) → other ≢ id → get new other ≡ get old other
  pub len : slab_len new ≡ slab_len old
  pub capacity : new.capacity ≡ old.capacity

-- a run with no elements and this room
abbrev pub IsEmptyRun : ℕ → RunState → Type 0
IsEmptyRun room r = r ≡ record { elems = []; room = room }

-- the nodes under their numbers
abbrev pub slots_of : Store → List (Option NodeState)
slots_of (Two s) = s.slots
slots_of (Four s) = s.slots
slots_of (Eight s) = s.slots
slots_of (Sixteen s) = s.slots

-- how many elements fit into one node
abbrev pub most_of : Store → ℕ
most_of (Two s) = 2
most_of (Four s) = 4
most_of (Eight s) = 8
most_of (Sixteen s) = 16

-- for how many nodes there is memory
abbrev pub places_of : Store → ℕ
places_of (Two s) = s.capacity
places_of (Four s) = s.capacity
places_of (Eight s) = s.capacity
places_of (Sixteen s) = s.capacity

-- how many more nodes can be made without memory
abbrev pub room_of : Store → ℕ
room_of (Two s) = usable s.capacity - slab_len s
room_of (Four s) = usable s.capacity - slab_len s
room_of (Eight s) = usable s.capacity - slab_len s
room_of (Sixteen s) = usable s.capacity - slab_len s

-- the nodes as they are seen
abbrev pub nodes_of : Store → ℕ → NodesState
nodes_of store spare = record { slots = slots_of store; spare = spare; most = most_of store; places = places_of store }
