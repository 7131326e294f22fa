-- What a session's thread takes along: its seat and outcomes may go to it, and the engine and the scripts may be shared.
use denote.Param.Send.{IsSend, IsSync, sendable, view_sync}
use Rattle.std.proofs.Crossing.{crosses}
use Rattle.std.proofs.alloc.Global.TheSendSync as heap
use Rattle.dt_model.proofs.statements.Expr.TheLaws.TheKnot.{sync-Expr}
use Rattle.dt_model.proofs.names.Name.TheSendSync as name
use Rattle.dt_model.proofs.places.Vars.TheSendSync as vars
use Rattle.dt_model.proofs.calls.Cell.TheSendSync as cell
use Rattle.dt_model.proofs.declared_tensors.Decls.TheSendSync as decls
use Rattle.dt_model.proofs.lists.List.TheSendSync as listed
use Rattle.dt_model.proofs.replies.Refusal.TheSendSync as refusal
use Rattle.dt_model.proofs.updates.Updates.TheSendSync as updates
use Rattle.dt_model.specs.contracts.statements.Stmt as stmt
use Rattle.dt_model.specs.contracts.calls.Call as call
use Rattle.dt_model.specs.contracts.replies.Verdict as verdict
use Rattle.dt_model.specs.contracts.lists.List as list_row
use Rattle.sqlite_items.proofs.boxed.Boxed.TheSendSync as boxed
use Rattle.sqlite_items.specs.contracts.boxed.Boxed as boxed_row
use Rattle.fiber_latch.specs.contracts.latches.Seat as seat
use Rattle.fiber_latch.specs.contracts.latches.Latches as table
use Rattle.fiber_latch.proofs.Crossing.{seat_send, table_sync}
use Rattle.fiber_store.specs.contracts.stores.FiberStore as store
use Rattle.fiber_store.specs.contracts.stores.FiberStoreKeep.TheImpl as keep
use Rattle.fiber_store.proofs.stores.FiberStore.TheSendSync as stored
use Rattle.sessions.proofs.outcomes.Lines.TheSendSync as lines
use Rattle.sessions.specs.contracts.engine.Engine as engine
use Rattle.sessions.specs.contracts.engine.Engine.TheInside as engine_inside
use Rattle.sessions.specs.contracts.running.SessionRun as run

chair_send : IsSend (seat.the_row store.the_row keep.ghosts)
chair_send = seat_send store.the_row keep.ghosts stored.the_send

-- a session's seat and outcomes may go to another thread
pub run_send : IsSend run.the_row
run_send = search (sendable, crosses, chair_send, lines.the_send) depth 12

latches_sync : IsSync (table.the_row store.the_row keep.ghosts)
latches_sync = table_sync store.the_row keep.ghosts stored.the_send stored.the_sync

engine_fields : IsSync engine_inside.the_row
engine_fields = search (sendable, crosses, latches_sync, heap.the_sync, heap.the_field_sync, decls.the_sync, decls.the_field_sync) depth 20

-- an engine may be shared by threads
pub engine_sync : IsSync engine.the_row
engine_sync = view_sync _ _ _ _ _ engine_fields

stmt_sync : IsSync stmt.the_row
stmt_sync = search (sendable, crosses, sync-Expr, name.the_sync, vars.the_sync, listed.the_sync) depth 20

boxed_sync : IsSync (boxed_row.the_row stmt.the_row)
boxed_sync = boxed.the_sync stmt.the_row stmt_sync

call_sync : IsSync call.the_row
call_sync = search (sendable, crosses, boxed_sync, cell.the_sync, cell.the_field_sync, updates.the_sync) depth 20

call_field_sync : IsSync (call.the_field).row
call_field_sync = search (sendable, crosses, boxed_sync, cell.the_sync, cell.the_field_sync, updates.the_sync) depth 20

verdict_sync : IsSync verdict.the_row
verdict_sync = search (sendable, crosses, call_sync, call_field_sync, refusal.the_sync, refusal.the_field_sync) depth 20

-- scripts may be shared by threads
pub scripts_sync : IsSync (list_row.the_row (list_row.the_row verdict.the_row))
scripts_sync = listed.the_sync (list_row.the_row verdict.the_row) (listed.the_sync verdict.the_row verdict_sync)
