use Rattle.std.proofs.Crossing.{crosses}
use denote.Param.Send.{sendable}
use Rattle.std.proofs.alloc.Global.TheSendSync as heap
use Rattle.dt_model.proofs.declared_tensors.Decls.TheSendSync as decls
use Rattle.dyntensor.proofs.Sharing.{draft_send}
use Rattle.dyntensor.proofs.drafts.read_drafts.Goals as goal

pub for_each_mut-requires-send-T : goal.for_each_mut-requires-send-T
for_each_mut-requires-send-T g c κs within = search (sendable, crosses, draft_send) depth 12

pub for_each_mut-requires-sync-F : goal.for_each_mut-requires-sync-F
for_each_mut-requires-sync-F g c κs within =
    search (sendable, crosses, heap.the_sync, decls.the_sync) depth 20
