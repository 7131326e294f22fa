use Rattle.std.proofs.Common.{◌≡◌, ◌≤◌, ◌+◌, ◌*◌, ◌/◌, length, drop}
use Rattle.node_arena.specs.Kinds.{kind_at}
use Rattle.bulk_build.specs.Layouts.{Laces}
use Rattle.bulk_build.proofs.woven.+woven_at.Given as goal

abbrev pub invariant-back : goal.invariant-back
invariant-back g l = record {
  short : l.left ≤ length l.elems;
  fits : l.left + 1 ≤ l.before * l.child.room + l.child.room;
  half : l.before * ((l.child.room + 1) / 2) + (l.child.room + 1) / 2 ≤ l.left + 1;
  counted : length l.run.items + l.before ≡ l.initial.before;
  laced : Laces l.kinds l.kind l.fn.levels.below l.initial.arena l.arena (drop l.left l.elems) l.run.items l.links.items;
  used : l.initial.arena.nodes.spare * ((kind_at l.kinds l.kind).hi / 2) + l.left + length l.run.items
      ≤ l.arena.nodes.spare * ((kind_at l.kinds l.kind).hi / 2) + length l.elems;
  steps : l.steps + l.arena.nodes.spare ≡ l.initial.steps + l.initial.arena.nodes.spare;
}

abbrev pub decreases-back : goal.decreases-back
decreases-back g l = l.before

abbrev pub decreases-woven_at : goal.decreases-woven_at
decreases-woven_at g l = l.levels.below
