use Rattle.std.proofs.Common.{◌≡◌}
use Rattle.std.specs.Prelude.{All, vec_len}
use Rattle.node_arena.specs.Stores.{IsEmptyRun}
use Rattle.node_arena.proofs.flat_slabs.prepared.Given as goal

abbrev pub invariant-loop-count : goal.invariant-loop-count
invariant-loop-count l = (vec_len l.prepared ≡ l._count) × All (IsEmptyRun l.room) l.prepared.items
