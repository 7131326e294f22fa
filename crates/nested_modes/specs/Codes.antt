-- The modes that a list of schemas and a list of arenas make.
use Rattle.std.specs.Prelude.{List, [], ◌∷◌}
use Rattle.dt_model.specs.declared.declared_tensors.Schema.{Schema}
use Rattle.node_arena.specs.Arenas.{ArenaState}
use Rattle.node_arena.specs.Kinds.{kinds_of, root_of}
use Rattle.node_arena.specs.Modes.{Mode}

-- the mode of a schema with an arena
abbrev pub mode_of : Schema → ArenaState → Mode
mode_of c a = record { kinds = kinds_of c; root = root_of c; arena = a }

-- the modes of schemas, each with its arena
abbrev pub modes_of : List Schema → List ArenaState → List Mode
modes_of [] arenas = []
modes_of (c ∷ cs) [] = []
modes_of (c ∷ cs) (a ∷ arenas) = mode_of c a ∷ modes_of cs arenas
