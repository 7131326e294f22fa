use Rattle.std.proofs.Common.{◌≤◌, ◌-◌, length, take, drop}
use Rattle.node_arena.specs.Trees.{Trees}
use Rattle.chunk_tree.specs.Numbering.{HangsAt, Lists}
use Rattle.chunk_tree.proofs.numbering.numbers.Given as goal

abbrev pub invariant-levels : goal.invariant-levels
invariant-levels l = record {
  within : l.seen ≤ length l.ids.items;
  listed : (t : Trees) → HangsAt l.arena l.fn.root l.fn.most t → Lists l.arena t (take l.seen l.ids.items) (drop l.seen l.ids.items);
}

abbrev pub decreases-levels : goal.decreases-levels
decreases-levels l = l.fn.most - l.seen
