use Rattle.std.proofs.Crossing.{crosses}
use denote.Param.Send.{IsSend, IsSync, sendable, given_sync}
use Rattle.fiber_latch.specs.contracts.tests.Small as small_row
use Rattle.fiber_latch.specs.contracts.tests.SmallKeep.TheImpl as keep
use Rattle.fiber_latch.specs.contracts.latches.Seat as seat
use Rattle.fiber_latch.specs.contracts.latches.Latches as table
use Rattle.std.proofs.alloc.Global.TheSendSync as heap
use Rattle.fiber_latch.proofs.tests.Small.TheSendSync as small
use Rattle.fiber_latch.proofs.Crossing.{seat_send, table_sync}
use Rattle.fiber_latch.proofs.tests.eight.Goals as goal

pub join-seat-requires-send-F : goal.join-seat-requires-send-F
join-seat-requires-send-F g c κs within =
    let t : IsSync (table.the_row small_row.the_row keep.ghosts) = table_sync small_row.the_row keep.ghosts small.the_send small.the_sync in
    let s : IsSend (seat.the_row small_row.the_row keep.ghosts) = seat_send small_row.the_row keep.ghosts small.the_send in
    let r : IsSync g.row.R = given_sync 0 g.row.R c.type_bounds.sync-R in
    search (sendable, crosses, heap.the_send, heap.the_field_send) depth 20

pub join-seat-requires-send-A : goal.join-seat-requires-send-A
join-seat-requires-send-A g c κs within = search (sendable, crosses, seat_send, small.the_send) depth 12
