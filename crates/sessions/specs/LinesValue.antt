-- What contracts see of the outcomes of a script's lines so far. No public clause cites this module.
use Rattle.std.specs.Prelude.{ℕ, List}
use Rattle.sessions.specs.declared.outcomes.Outcome.{Outcome}

-- the outcomes, and for how many more there is room
pub record LinesState : Type 0 where
  pub outcomes : List Outcome
  pub spare : ℕ
