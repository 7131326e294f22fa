-- What the thread that reads a draft takes along: the draft may go to it, and the declarations may be shared.
use denote.Param.Send.{IsSend, sendable}
use Rattle.std.proofs.Crossing.{crosses}
use Rattle.dt_model.proofs.statements.Expr.TheLaws.TheKnot.{send-Expr}
use Rattle.dt_model.proofs.names.Name.TheSendSync as name
use Rattle.dt_model.proofs.places.Vars.TheSendSync as vars
use Rattle.dt_model.proofs.calls.Cell.TheSendSync as cell
use Rattle.dt_model.proofs.lists.List.TheSendSync as listed
use Rattle.dt_model.proofs.replies.Refusal.TheSendSync as refusal
use Rattle.dt_model.proofs.updates.Updates.TheSendSync as updates
use Rattle.dt_model.specs.contracts.statements.Stmt as stmt
use Rattle.dt_model.specs.contracts.calls.Call as call
use Rattle.dt_model.specs.contracts.replies.Verdict as verdict
use Rattle.dt_model.specs.contracts.lists.List as list_row
use Rattle.sqlite_items.proofs.boxed.Boxed.TheSendSync as boxed
use Rattle.sqlite_items.specs.contracts.boxed.Boxed as boxed_row
use Rattle.script_read.proofs.file_names.FileName.TheSendSync as file
use Rattle.dyntensor.specs.contracts.drafts.Draft as draft

stmt_send : IsSend stmt.the_row
stmt_send = search (sendable, crosses, send-Expr, name.the_send, vars.the_send) depth 20

boxed_send : IsSend (boxed_row.the_row stmt.the_row)
boxed_send = boxed.the_send stmt.the_row stmt_send

call_field_send : IsSend (call.the_field).row
call_field_send = search (sendable, crosses, boxed_send, cell.the_field_send, updates.the_send) depth 20

verdict_send : IsSend verdict.the_row
verdict_send = search (sendable, crosses, call_field_send, refusal.the_field_send) depth 20

script_send : IsSend (list_row.the_row verdict.the_row)
script_send = listed.the_send verdict.the_row verdict_send

-- a draft may go to another thread
pub draft_send : IsSend draft.the_row
draft_send = search (sendable, crosses, script_send, file.the_send) depth 20
