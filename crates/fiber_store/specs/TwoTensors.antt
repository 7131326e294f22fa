-- The declarations of the tests. No public clause cites this module.
use Rattle.std.specs.Prelude.{[], ◌∷◌}
use Rattle.dt_model.specs.declared.declared_tensors.Decls.{Decls}
use Rattle.dt_model.specs.Flat.{flat_schema}

-- v of dimension 5 has latches 0 and 1, for the coordinates 0 to 2 and 3 to 4; m of 3 by 2 has latches 2 and 3, for the rows 0 to 1 and 2
abbrev pub two_tensors : Decls
two_tensors = record {
  schemas = flat_schema ∷ [];
  tensors = (record { name = 118 ∷ []; dims = 5 ∷ []; formats = record { items = 0 ∷ [] }; latches = 2 })
      ∷ (record { name = 109 ∷ []; dims = 3 ∷ 2 ∷ []; formats = record { items = 0 ∷ 0 ∷ [] }; latches = 2 }) ∷ [];
}
