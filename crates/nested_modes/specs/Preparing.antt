-- Memory that is taken for numbers that will be put in.
use Rattle.std.specs.Prelude.{◌≡◌, ◌≤◌, ◌+◌, ℕ, true, List, [], ◌∷◌, Option, None, Some}
use Rattle.std.specs.Option.{IsSomeAnd}
use Rattle.dt_model.specs.declared.declared_tensors.Schema.{Schema}
use Rattle.node_arena.specs.declared.elements.Structure.{Structure}
use Rattle.node_arena.specs.declared.elements.Top.{Top}
use Rattle.node_arena.specs.declared.elements.Top.TheVariants as tops
use Rattle.node_arena.specs.declared.kinds.NodeKind.{NodeKind}
use Rattle.node_arena.specs.Arenas.{ArenaState, RunState, run_at}
use Rattle.node_arena.specs.Kinds.{kinds_of}
use Rattle.node_arena.specs.Rules.{Serves}
use Rattle.insert_gen.specs.Inserting.{has_ends}
use Rattle.nested_modes.specs.Codes.{mode_of}
use Rattle.nested_modes.specs.Paths.{below}

-- ---- what stays

-- no run before and behind, or one with the same elements and no less room
abbrev pub KeepsElems : Option RunState → Option RunState → Type 0
KeepsElems None new = new ≡ None
KeepsElems (Some r) new = IsSomeAnd new (λ q. (q.elems ≡ r.elems) × (r.room ≤ q.room))

-- an arena has the nodes and the runs that it had
pub record HoldsSame (a b : ArenaState) : Type 0 where
  pub nodes : b.nodes.slots ≡ a.nodes.slots
  pub runs : (i : ℕ) → KeepsElems (run_at a i) (run_at b i)
  pub most : b.nodes.most ≡ a.nodes.most

-- and no fewer spare ones
pub record Gains (a b : ArenaState) : Type 0 where
  pub holds : HoldsSame a b
  pub nodes : a.nodes.spare ≤ b.nodes.spare
  pub runs : a.runs.spare ≤ b.runs.spare
  pub room : a.runs.room ≤ b.runs.room

-- ---- what can be counted

-- n more elements can be counted, and don't make the kept spine too great
pub record CanCount (n : ℕ) (s : List NodeKind) (st : Structure) : Type 0 where
  pub few : st.len + n ≤ 4294967295
  pub low : has_ends s ≡ true → st.spine + n ≤ 96

-- so it is on a path, and each arena serves its kinds
abbrev pub IsLowFor : ℕ → List Schema → List ArenaState → Structure → List ℕ → Type 0
IsLowFor n [] arenas st at = (arenas ≡ []) × (at ≡ [])
IsLowFor n (c ∷ cs) [] st at = ⊥
IsLowFor n (c ∷ cs) (a ∷ arenas) st [] = ⊥
IsLowFor n (c ∷ cs) (a ∷ arenas) st (i ∷ at) =
    Serves (kinds_of c) a
    × CanCount n (kinds_of c) st
    × IsLowFor n cs arenas (below (mode_of c a) st i) at

-- the run that the structure is, if it is one, is there
abbrev pub HasItsRun : Top → ArenaState → Type 0
HasItsRun tops.Empty a = Unit {0}
HasItsRun (tops.Node i) a = Unit {0}
HasItsRun (tops.Run i) a = IsSomeAnd (run_at a i) (λ r. Unit {0})
