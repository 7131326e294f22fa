-- What an insertion asks of an arena's room, and what it leaves of it.
use Rattle.std.specs.Prelude.{◌≡◌, ◌≤◌, ◌+◌, ◌⊎◌, ℕ, Bool, true, false, max, List, Option, Some, None, IfSome, if◌then◌else◌, nat_eq}
use Rattle.std.specs.List.{list_any}
use Rattle.std.specs.Option.{IsSomeAnd}
use Rattle.node_arena.specs.declared.elements.Structure.{Structure}
use Rattle.node_arena.specs.declared.elements.Top.{Top}
use Rattle.node_arena.specs.declared.elements.Top.TheVariants as tops
use Rattle.node_arena.specs.declared.kinds.NodeKind.{NodeKind}
use Rattle.node_arena.specs.declared.kinds.Shape.{Shape}
use Rattle.node_arena.specs.declared.kinds.Shape.TheVariants.{Flat, Post, Ends, Woven}
use Rattle.node_arena.specs.Arenas.{ArenaState, run_at}
use Rattle.node_arena.specs.Passing.{PushesDown}
use Rattle.node_arena.specs.Structures.{Tree, links_of, IsStanding, spine_of}

-- ---- spines

-- whether a node with these links has two
abbrev pub has_two : Shape → Bool
has_two Flat = false
has_two (Post _) = false
has_two (Ends _ _) = true
has_two Woven = false

-- whether the nodes of one of the kinds have two links
abbrev pub has_ends : List NodeKind → Bool
has_ends s = list_any (λ k. has_two k.shape) s

-- a kept spine after an insertion: the greater of it and the depth, where one is told; else one more
abbrev pub raised : ℕ → Option ℕ → ℕ
raised n None = n + 1
raised n (Some d) = max n d

-- The kept spine rises by at most one, and only where a kind has two links. It rises no higher than the new tree's spine is, except where a new node
-- pushed nodes of the old tree down.
pub record KeepsLow (s : List NodeKind) (a b : ArenaState) (old new : Structure) : Type 0 where
  pub one : new.spine ≤ old.spine + 1
  pub none : has_ends s ≡ false → new.spine ≡ old.spine
  pub told : (t u : Tree) → IsStanding s a old t → IsStanding s b new u
      → (new.spine ≤ max old.spine (spine_of s u)) ⊎ PushesDown a b (links_of t) (links_of u)

-- ---- the room of runs

-- there is room for one more in the run that the structure is, or in a spare one where it is to be a run and is empty
abbrev pub HasRoom : Top → Shape → ArenaState → Type 0
HasRoom tops.Empty Flat a = 1 ≤ a.runs.room
HasRoom tops.Empty (Post _) a = Unit {0}
HasRoom tops.Empty (Ends _ _) a = Unit {0}
HasRoom tops.Empty Woven a = Unit {0}
HasRoom (tops.Node i) shape a = Unit {0}
HasRoom (tops.Run i) shape a = IsSomeAnd (run_at a i) (λ r. 1 ≤ r.room)

-- how much room an insertion takes of a run: one, where the structure is this run
abbrev pub room_taken : Top → ℕ → ℕ
room_taken tops.Empty i = 0
room_taken (tops.Node j) i = 0
room_taken (tops.Run j) i = if nat_eq i j then 1 else 0

-- each run that was there has as much room, except what is taken of it
abbrev pub KeepsRoom : Top → ArenaState → ArenaState → Type 0
KeepsRoom top a b = (i : ℕ) → IfSome (run_at a i) (λ r. IsSomeAnd (run_at b i) (λ q. r.room ≤ q.room + room_taken top i))

-- a run that the structure is only now has the room of a spare one less 1
abbrev pub HasRoomLeft : Structure → Structure → ArenaState → ArenaState → Type 0
HasRoomLeft old new a b = old.top ≡ tops.Empty → (i : ℕ) → new.top ≡ tops.Run i → IsSomeAnd (run_at b i) (λ r. r.room + 1 ≡ a.runs.room)
