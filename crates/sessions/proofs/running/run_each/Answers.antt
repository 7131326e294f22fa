use Rattle.std.proofs.Crossing.{crosses}
use denote.Param.Send.{IsSync, sendable, given_sync}
use Rattle.sessions.proofs.Sharing.{run_send, engine_sync, scripts_sync}
use Rattle.sessions.proofs.running.run_each.Goals as goal

pub for_each_mut-requires-send-T : goal.for_each_mut-requires-send-T
for_each_mut-requires-send-T g c κs within = search (sendable, crosses, run_send) depth 12

pub for_each_mut-requires-sync-F : goal.for_each_mut-requires-sync-F
for_each_mut-requires-sync-F g c κs within =
    let r : IsSync g.row.R = given_sync 0 g.row.R c.type_bounds.sync-R in
    let h : IsSync g.row.G = given_sync 1 g.row.G c.type_bounds.sync-G in
    search (sendable, crosses, engine_sync, scripts_sync) depth 20
