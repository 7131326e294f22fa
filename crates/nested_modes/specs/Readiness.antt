-- What has to be ready so that numbers can be put in without memory.
use Rattle.std.specs.Prelude.{◌≡◌, ◌≤◌, ◌<◌, ◌+◌, ◌*◌, ℕ, true, List, [], ◌∷◌, None}
use Rattle.std.specs.Option.{IsSomeAnd}
use Rattle.dt_model.specs.declared.declared_tensors.Schema.{Schema}
use Rattle.node_arena.specs.declared.elements.Structure.{Structure}
use Rattle.node_arena.specs.declared.elements.Top.{Top}
use Rattle.node_arena.specs.declared.elements.Top.TheVariants as tops
use Rattle.node_arena.specs.declared.kinds.NodeKind.{NodeKind}
use Rattle.node_arena.specs.declared.kinds.Shape.{Shape}
use Rattle.node_arena.specs.declared.kinds.Shape.TheVariants.{Flat}
use Rattle.node_arena.specs.Arenas.{ArenaState, run_at}
use Rattle.node_arena.specs.Kinds.{kinds_of, root_of, shape_at}
use Rattle.node_arena.specs.Modes.{walk_in}
use Rattle.node_arena.specs.Rules.{Serves}
use Rattle.iter_gen.specs.LookingUp.{elem_with}
use Rattle.insert_gen.specs.declared.needs.Spares.{Spares}
use Rattle.insert_gen.specs.Inserting.{has_ends, HasRoom}
use Rattle.insert_gen.specs.Needs.{Wants, nodes_for}
use Rattle.nested_modes.specs.Codes.{mode_of}
use Rattle.nested_modes.specs.Paths.{below}

-- ---- one number

-- one more element can go into the structure without memory
pub record CanGrow (s : List NodeKind) (k : ℕ) (a : ArenaState) (st : Structure) : Type 0 where
  pub few : st.len < 4294967295
  pub spares : Spares
  pub wants : Wants s k st spares
  pub nodes : spares.nodes ≤ a.nodes.spare
  pub runs : spares.runs ≤ a.runs.spare
  pub low : has_ends s ≡ true → st.spine < 96
  pub room : HasRoom st.top (shape_at s k) a

-- on the path of these coordinates each structure that lacks its coordinate can grow
abbrev pub IsReady : List Schema → List ArenaState → Structure → List ℕ → Type 0
IsReady [] arenas st at = (arenas ≡ []) × (at ≡ [])
IsReady (c ∷ cs) [] st at = ⊥
IsReady (c ∷ cs) (a ∷ arenas) st [] = ⊥
IsReady (c ∷ cs) (a ∷ arenas) st (n ∷ at) =
    Serves (kinds_of c) a
    × (elem_with n (walk_in (mode_of c a) st) ≡ None → CanGrow (kinds_of c) (root_of c) a st)
    × IsReady cs arenas (below (mode_of c a) st n) at

-- ---- several numbers

-- as many nodes as one insertion takes at most, where lengths have 32 binary digits
abbrev pub most_nodes : List NodeKind → ℕ → ℕ
most_nodes s k = nodes_for s (shape_at s k) 32

-- there is room for n more elements in the run that the structure is, or in spare ones where it is to be a run and is empty
abbrev pub HasRoomFor : ℕ → Top → Shape → ArenaState → Type 0
HasRoomFor n tops.Empty shape a = shape ≡ Flat → n ≤ a.runs.room
HasRoomFor n (tops.Node i) shape a = Unit {0}
HasRoomFor n (tops.Run i) shape a = IsSomeAnd (run_at a i) (λ r. n ≤ r.room)

-- a mode's arena has spare nodes and runs for n insertions
pub record HasSpares (n : ℕ) (s : List NodeKind) (k : ℕ) (a : ArenaState) : Type 0 where
  pub serves : Serves s a
  pub nodes : n * most_nodes s k ≤ a.nodes.spare
  pub runs : shape_at s k ≡ Flat → n ≤ a.runs.spare

-- n more elements can go into the structure, where the arena has spares for them
pub record CanGrowBy (n : ℕ) (s : List NodeKind) (k : ℕ) (a : ArenaState) (st : Structure) : Type 0 where
  pub few : st.len + n ≤ 4294967295
  pub low : has_ends s ≡ true → st.spine + n ≤ 96
  pub room : HasRoomFor n st.top (shape_at s k) a

-- so many numbers can be put in without memory, as far as the structures on this path matter
abbrev pub IsReadyFor : ℕ → List Schema → List ArenaState → Structure → List ℕ → Type 0
IsReadyFor n [] arenas st at = (arenas ≡ []) × (at ≡ [])
IsReadyFor n (c ∷ cs) [] st at = ⊥
IsReadyFor n (c ∷ cs) (a ∷ arenas) st [] = ⊥
IsReadyFor n (c ∷ cs) (a ∷ arenas) st (i ∷ at) =
    HasSpares n (kinds_of c) (root_of c) a
    × CanGrowBy n (kinds_of c) (root_of c) a st
    × IsReadyFor n cs arenas (below (mode_of c a) st i) at
