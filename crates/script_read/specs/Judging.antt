-- Which written calls are judged here, and what the judging of a cell or an update says. No public clause cites this module.
use Rattle.std.specs.Prelude.{ℕ, ◌≡◌, ◌<◌, ◌^◌, true, List, length, Option, Some, None, Result, Ok, Err, All, not, ◌==◌}
use Rattle.dt_model.specs.declared.replies.Refusal.{Refusal}
use Rattle.dt_model.specs.declared.replies.Refusal.TheVariants as because
use Rattle.dt_model.specs.declared.written.WrittenCoordinate.{WrittenCoordinate}
use Rattle.dt_model.specs.declared.written.WrittenCall.{WrittenCall}
use Rattle.dt_model.specs.declared.written.WrittenCall.TheVariants as written
use Rattle.dt_model.specs.Refusals.{or_else, when, range_fault}
use Rattle.dt_model.specs.Verdicts.{is_small}

-- a call whose cells have fewer than 2^32 coordinates each, or whose statement is within the limits
abbrev pub CanBeJudged : WrittenCall → Type 0
CanBeJudged (written.Get name coordinates) = length coordinates < 2 ^ 32
CanBeJudged (written.Batch updates) = All (λ u. length u.coordinates < 2 ^ 32) updates
CanBeJudged (written.Query s) = is_small s ≡ true

-- the first fault, or the value where there is none
abbrev pub IsFirstFault : {X : Type 0} → Option Refusal → X → Result X Refusal → Type 0
IsFirstFault fault x (Ok y) = (fault ≡ None) × (y ≡ x)
IsFirstFault fault x (Err r) = fault ≡ Some r

-- why coordinates are refused, where the tensor has these dimensions
abbrev pub coordinates_fault : List ℕ → List ℕ → List WrittenCoordinate → Option Refusal
coordinates_fault name dims coordinates = or_else (when (not (length coordinates == length dims)) (because.Rank name (length coordinates) (length dims)))
    (range_fault name 1 dims coordinates)
