-- Rows of each width, and pairs however they are kept, seen as what contracts see.
use Rattle.dt_model.specs.declared.packed_pairs.Widths.{Widths}
use Rattle.dt_model.specs.declared.packed_pairs.Widths.TheVariants.{Two, Four, Six, Eight}
use Rattle.dt_model.specs.Packed.{PackedState}

-- the state of rows of any width
abbrev pub state_of : Widths → PackedState
state_of (Two rows) = rows
state_of (Four rows) = rows
state_of (Six rows) = rows
state_of (Eight rows) = rows
