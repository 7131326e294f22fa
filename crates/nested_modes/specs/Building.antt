-- Structures of several modes that are made anew.
use Rattle.std.specs.Prelude.{◌≡◌, ◌≢◌, ℕ, List, [], ◌∷◌, map, drop, All}
use Rattle.dt_model.specs.declared.declared_tensors.Schema.{Schema}
use Rattle.node_arena.specs.declared.elements.Structure.{Structure}
use Rattle.node_arena.specs.declared.elements.Top.TheVariants as tops
use Rattle.node_arena.specs.Arenas.{ArenaState}
use Rattle.node_arena.specs.Kinds.{kinds_of}
use Rattle.node_arena.specs.Modes.{Mode, ApartBelow, IsNested, entries_in}
use Rattle.node_arena.specs.Rules.{Serves}
use Rattle.nested_modes.specs.Codes.{modes_of}
use Rattle.nested_modes.specs.Frames.{KeepsNested}

-- the pairs without their first n coordinates
abbrev pub tails : ℕ → List (List ℕ × ℕ) → List (List ℕ × ℕ)
tails n ps = map (λ p. (drop n p.0, p.1)) ps

-- each arena has nodes for the runs of its mode's kinds
abbrev pub AllServe : List Schema → List ArenaState → Type 0
AllServe [] arenas = Unit {0}
AllServe (c ∷ cs) [] = Unit {0}
AllServe (c ∷ cs) (a ∷ arenas) = Serves (kinds_of c) a × AllServe cs arenas

-- each structure that was there is as before, and apart from these
abbrev pub AddsTo : List Mode → List Mode → List Structure → Type 0
AddsTo ms ns sts = (z : Structure) → IsNested ms z → KeepsNested ms ns z × All (λ y. ApartBelow ns y z) sts

-- a structure has these entries, and is new: what was there before is kept, and apart from it
pub record IsBuiltIn (cs : List Schema) (old new : List ArenaState) (ps : List (List ℕ × ℕ)) (st : Structure) : Type 0 where
  pub nested : IsNested (modes_of cs new) st
  pub entries : entries_in (modes_of cs new) st ≡ ps
  pub adds : AddsTo (modes_of cs old) (modes_of cs new) (st ∷ [])
  pub some : ps ≢ [] → st.top ≢ tops.Empty
