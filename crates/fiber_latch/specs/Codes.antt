-- The codes by which proofs tell the values of seats and tables apart. No public clause cites this module.
use Rattle.std.specs.Coded.{Coded, codes}
use Rattle.dt_model.specs.contracts.statements.Expr as expr
use Rattle.fiber_latch.specs.Seats.{SeatState, TableState}

-- of a seat's value
pub seat_code : Coded SeatState
seat_code = Prim.hlevel (codes, expr.the_row.coded)

-- of a table's value
pub table_code : Coded TableState
table_code = Prim.hlevel (codes, expr.the_row.coded)
