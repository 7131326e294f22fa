-- Coordinates and a number that are read one after the other. No public clause cites this module.
use Rattle.std.specs.Prelude.{List, Result, Ok, Err}
use Rattle.dt_model.specs.declared.replies.Refusal.{Refusal}
use Rattle.dt_model.specs.declared.written.WrittenCoordinate.{WrittenCoordinate}
use Rattle.dt_model.specs.declared.written.WrittenNumber.{WrittenNumber}

-- both, or the first fault
abbrev pub coordinates_and_number : Result (List WrittenCoordinate) Refusal → Result WrittenNumber Refusal
    → Result (List WrittenCoordinate × WrittenNumber) Refusal
coordinates_and_number (Ok cs) (Ok n) = Ok (cs, n)
coordinates_and_number (Ok cs) (Err r) = Err r
coordinates_and_number (Err r) n = Err r
