use Rattle.std.proofs.Common.{◌≡◌, ◌≢◌, ◌≤◌, ◌+◌, ℕ, IsSomeAnd, length, take}
use Rattle.node_arena.specs.Arenas.{run_at}
use Rattle.bulk_build.proofs.flat.fill.Given as goal

abbrev pub invariant-loop-place : goal.invariant-loop-place
invariant-loop-place l = record {
  run : IsSomeAnd (run_at l.arena l.id) (λ r. (r.elems ≡ take l.place l.elems) × (length l.elems ≤ r.room + l.place));
  others : (other : ℕ) → other ≢ l.id → run_at l.arena other ≡ run_at l.initial.arena other;
  nodes : l.arena.nodes ≡ l.initial.arena.nodes;
  spare : l.arena.runs.spare ≡ l.initial.arena.runs.spare;
  room : l.arena.runs.room ≡ l.initial.arena.runs.room;
}
