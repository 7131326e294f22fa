-- The world of the tests of runs, and the scripts that they build. No public clause cites this module.
use Rattle.std.specs.Prelude.{ℕ, ◌≡◌, List, [], ◌∷◌, length, All, IsTrue}
use Rattle.dt_model.specs.declared.replies.Verdict.{Verdict}
use Rattle.dt_model.specs.declared.replies.World.{World}
use Rattle.dt_model.specs.Flat.{flat_schema}
use Rattle.fiber_latch.specs.Seats.{SeatState, TableState, config_for, first_state}
use Rattle.sessions.specs.Running.{line_is_valid}

-- the tensors v of dimension 128 with 64 latches and w of dimension 8 with 4, and nothing loaded
abbrev pub two_vectors : World
two_vectors = record {
  decls = record {
    schemas = flat_schema ∷ [];
    tensors = (record { name = 118 ∷ []; dims = 128 ∷ []; formats = record { items = 0 ∷ [] }; latches = 64 })
        ∷ (record { name = 119 ∷ []; dims = 8 ∷ []; formats = record { items = 0 ∷ [] }; latches = 4 }) ∷ [];
  };
  base = [] ∷ [] ∷ [];
  scripts = [];
}

-- an engine over it, and the seat of all its sessions
pub record IsOpened (sessions calls : ℕ) (table : TableState) (seat : SeatState) : Type 0 where
  pub config : table.config ≡ config_for two_vectors sessions calls
  pub whole : seat ≡ first_state table.table table.config

-- a script of so many lines, whose calls are valid
pub record IsBuilt (n : ℕ) (script : List Verdict) : Type 0 where
  pub count : length script ≡ n
  pub valid : All (λ v. IsTrue (line_is_valid two_vectors.decls v)) script

-- scripts for so many sessions, each of so many lines
pub record AreBuilt (sessions n : ℕ) (scripts : List (List Verdict)) : Type 0 where
  pub count : length scripts ≡ sessions
  pub each : All (IsBuilt n) scripts
