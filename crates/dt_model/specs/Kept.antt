-- Pairs however they are kept, seen as their list.
use Rattle.std.specs.Prelude.{ℕ, List}
use Rattle.dt_model.specs.declared.pairs.Kept.{Kept}
use Rattle.dt_model.specs.declared.pairs.Kept.TheVariants.{Packed, Mixed}

-- the pairs, packed or not
abbrev pub pairs_in : Kept → List (List ℕ × ℕ)
pairs_in (Packed packed) = packed.pairs
pairs_in (Mixed mixed) = mixed.items
