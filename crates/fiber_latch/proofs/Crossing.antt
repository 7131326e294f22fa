-- A seat may go to another thread, and a table may be shared, where a store may.
use denote.RattleType.{RattleType}
use denote.Param.Send.{IsSend, IsSync, sendable, view_send, view_sync}
use Rattle.std.proofs.Crossing.{crosses}
use Rattle.dt_model.proofs.statements.Expr.TheLaws.TheKnot.{send-Expr}
use Rattle.dt_model.proofs.names.Name.TheSendSync as name
use Rattle.dt_model.proofs.places.Vars.TheSendSync as vars
use Rattle.dt_model.proofs.calls.Cell.TheSendSync as cell
use Rattle.dt_model.proofs.calls.Turn.TheSendSync as turn
use Rattle.dt_model.proofs.lists.List.TheSendSync as listed
use Rattle.dt_model.proofs.updates.Updates.TheSendSync as updates
use Rattle.sqlite_items.proofs.boxed.Boxed.TheSendSync as boxed
use Rattle.sqlite_items.specs.contracts.boxed.Boxed as boxed_row
use Rattle.dt_model.specs.contracts.calls.Call as call
use Rattle.dt_model.specs.contracts.statements.Stmt as stmt
use Rattle.dt_model.specs.contracts.calls.Journal as journal
use Rattle.dt_model.specs.contracts.calls.Entry as entry
use Rattle.dt_model.specs.declared.keep.Keep.{Ghosts}
use Rattle.std.specs.contracts.option.Option as option
use Rattle.atomic_table.proofs.shared.Seat.TheSendSync as place
use Rattle.atomic_table.proofs.owned.Table.TheSendSync as board
use Rattle.atomic_table.proofs.badge.Badge.TheSendSync as badge
use Rattle.atomic_table.specs.contracts.badge.Badge as badge_row
use Rattle.atomic_table.specs.contracts.shared.Seat as place_row
use Rattle.fiber_latch.specs.contracts.view.View as view
use Rattle.fiber_latch.specs.contracts.rule.Kept as kept
use Rattle.fiber_latch.specs.contracts.rule.SlotValue as slot_value
use Rattle.fiber_latch.specs.contracts.latches.Seat as seat
use Rattle.fiber_latch.specs.contracts.latches.Seat.TheInside as seat_inside
use Rattle.fiber_latch.specs.contracts.latches.Latches as table
use Rattle.fiber_latch.specs.contracts.latches.Latches.TheInside as table_inside

stmt_send : IsSend stmt.the_row
stmt_send = search (sendable, crosses, send-Expr, name.the_send, vars.the_send, listed.the_send) depth 20

boxed_send : IsSend (boxed_row.the_row stmt.the_row)
boxed_send = boxed.the_send stmt.the_row stmt_send

call_send : IsSend call.the_row
call_send = search (sendable, crosses, boxed_send, cell.the_send, cell.the_field_send, updates.the_send) depth 20

call_field : IsSend (call.the_field).row
call_field = search (sendable, crosses, boxed_send, cell.the_send, cell.the_field_send, updates.the_send) depth 20

entry_send : IsSend entry.the_row
entry_send = search (sendable, crosses, turn.the_field_send, call_send, call_field) depth 20

journal_send : IsSend journal.the_row
journal_send = search (sendable, crosses, entry_send) depth 12

kept_send : (C : RattleType) → IsSend C → IsSend (kept.the_row C)
kept_send C s = search (sendable, crosses, journal_send) depth 12

badge_send : IsSend (badge_row.the_row view.the_row)
badge_send = badge.the_send view.the_row

kept_field : (C : RattleType) → IsSend C → IsSend (kept.the_field C).row
kept_field C s = search (sendable, crosses, journal_send) depth 12

slot_value_field : (C : RattleType) → IsSend C → IsSend (slot_value.the_field C).row
slot_value_field C s = let k : IsSend (kept.the_field C).row = kept_field C s in search (sendable, crosses, badge.the_send) depth 12

slot_send : (C : RattleType) → IsSend C → IsSend (option.the_row (slot_value.the_row C))
slot_send C s = let l : IsSend (slot_value.the_field C).row = slot_value_field C s in search (sendable, crosses) depth 12

place_send : (C : RattleType) → IsSend C → IsSend (place_row.the_row (option.the_row (slot_value.the_row C)) view.the_row)
place_send C s = place.the_send (option.the_row (slot_value.the_row C)) view.the_row (slot_send C s)

seat_fields : (C : RattleType) (K : Ghosts C.Denot) → IsSend C → IsSend (seat_inside.the_row C K)
seat_fields C K s = let p : IsSend (place_row.the_row (option.the_row (slot_value.the_row C)) view.the_row) = place_send C s in search (
  sendable,
  crosses,
) depth 12

-- a seat may go to another thread where the store may
pub seat_send : (C : RattleType) (K : Ghosts C.Denot) → IsSend C → IsSend (seat.the_row C K)
seat_send C K s = view_send _ _ _ _ _ (seat_fields C K s)

table_fields : (C : RattleType) (K : Ghosts C.Denot) → IsSend C → IsSync C → IsSync (table_inside.the_row C K)
table_fields C K s y = let o : IsSend (option.the_row (slot_value.the_row C)) = slot_send C s in search (sendable, crosses, board.the_field_sync) depth 12

-- a table may be shared by threads where the store may
pub table_sync : (C : RattleType) (K : Ghosts C.Denot) → IsSend C → IsSync C → IsSync (table.the_row C K)
table_sync C K s y = view_sync _ _ _ _ _ (table_fields C K s y)
