use Rattle.std.proofs.Common.{◌≡◌, ◌<◌, ◌≤◌, ◌+◌}
use Rattle.chunk_tree.proofs.Freeing.{AreFreed}
use Rattle.chunk_tree.proofs.numbering.free_all.Given as goal

abbrev pub invariant-loop-id : goal.invariant-loop-id
invariant-loop-id l = record {
  freed : AreFreed l.initial.arena l.arena l.ids l.id-index;
  spare : l.initial.arena.nodes.places < 4294967296 → l.arena.nodes.spare ≡ l.initial.arena.nodes.spare + l.id-index;
  kept : l.initial.arena.nodes.spare ≤ l.arena.nodes.spare;
  places : l.arena.nodes.places ≡ l.initial.arena.nodes.places;
  most : l.arena.nodes.most ≡ l.initial.arena.nodes.most;
  runs : l.arena.runs ≡ l.initial.arena.runs;
}
