-- The structures on the path of some coordinates.
use Rattle.std.specs.Prelude.{ℕ, Option, Some, None}
use Rattle.node_arena.specs.declared.elements.Elem.{Elem}
use Rattle.node_arena.specs.declared.elements.Held.{Held}
use Rattle.node_arena.specs.declared.elements.Held.TheVariants.{Number, Inner}
use Rattle.node_arena.specs.declared.elements.Structure.{Structure}
use Rattle.node_arena.specs.declared.elements.Top.TheVariants as tops
use Rattle.node_arena.specs.Modes.{Mode, walk_in}
use Rattle.iter_gen.specs.LookingUp.{elem_with}

-- a structure without elements
abbrev pub empty_structure : Structure
empty_structure = record { top = tops.Empty; len = 0; spine = 0 }

-- the structure that is held, the empty one in the place of a number
abbrev pub held_structure : Held → Structure
held_structure (Number v) = empty_structure
held_structure (Inner st) = st

-- the structure that an element holds, the empty one where there is none
abbrev pub inner_of : Option Elem → Structure
inner_of None = empty_structure
inner_of (Some e) = held_structure e.held

-- the structure below a coordinate, the empty one where there is none
abbrev pub below : Mode → Structure → ℕ → Structure
below m st n = inner_of (elem_with n (walk_in m st))
