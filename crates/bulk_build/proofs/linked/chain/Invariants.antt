use Rattle.std.proofs.Common.{◌≡◌, ◌<◌, ◌≤◌, ◌+◌, ◌*◌, length, drop}
use Rattle.node_arena.specs.Conforming.{whole}
use Rattle.bulk_build.specs.Layouts.{Builds}
use Rattle.bulk_build.proofs.linked.chain.Given as goal

abbrev pub invariant-back : goal.invariant-back
invariant-back g l = record {
  short : l.left ≤ length l.elems;
  fits : l.left ≤ l.parts * l.hi;
  least : l.parts * l.hi < l.left + l.hi;
  built : Builds l.kinds (whole l.kinds l.kind) l.initial.arena l.arena (drop l.left l.elems) l.link;
  spare : l.arena.nodes.spare + l.initial.parts ≡ l.initial.arena.nodes.spare + l.parts;
  enough : l.parts ≤ l.arena.nodes.spare;
  steps : l.steps + l.arena.nodes.spare ≡ l.initial.steps + l.initial.arena.nodes.spare;
}

abbrev pub decreases-back : goal.decreases-back
decreases-back g l = l.parts
