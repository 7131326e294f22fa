use Rattle.std.proofs.Common.{ap}
use Rattle.node_arena.specs.Arenas.{RunsState}
use Rattle.structure_bench.proofs.GrowingLemmas.{standing-reserved}
use Rattle.structure_bench.proofs.insertions.make_room.Goals as goal

pub returns-in_err-reserve-clause-stands : goal.returns-in_err-reserve-clause-stands
returns-in_err-reserve-clause-stands c = λ t h.
    standing-reserved _ _ _ _ _ c.reserve.ensures.nodes (ap (λ (r : RunsState). r.slots) c.reserve.ensures.runs) h

pub returns-in-Node-clause-stands : goal.returns-in-Node-clause-stands
returns-in-Node-clause-stands c = λ t h.
    standing-reserved _ _ _ _ _ c.reserve.ensures.nodes (ap (λ (r : RunsState). r.slots) c.reserve.ensures.runs) h
