-- What contracts see of packed pairs: how many coordinates each has, the pairs, and how many more there is room for.
use Rattle.std.specs.Prelude.{ℕ, List}

-- the order of each pair, the pairs in their order, and the room that is left
pub record PackedState : Type 0 where
  pub order : ℕ
  pub pairs : List (List ℕ × ℕ)
  pub spare : ℕ
