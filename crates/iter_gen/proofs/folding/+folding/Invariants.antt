use Rattle.std.proofs.Common.{◌+◌, ◌-◌, ◌*◌, drop}
use Rattle.node_arena.specs.declared.elements.Elem.{Elem}
use Rattle.node_arena.specs.Trees.{Trees}
use Rattle.node_arena.specs.Walks.{walk, walks}
use Rattle.iter_gen.specs.Folding.{HangsBetween, HasLinks, woven_front}
use Rattle.iter_gen.specs.Searching.{Searches, HasRoot}
use Rattle.iter_gen.specs.Visiting.{Visits, AllowsEach}
use Rattle.iter_gen.proofs.folding.+folding.Given as goal

abbrev pub decreases-fold_below : goal.decreases-fold_below
decreases-fold_below g l = 4 * l.end + 2

abbrev pub decreases-fold_link : goal.decreases-fold_link
decreases-fold_link g l = 4 * l.end + 3

abbrev pub decreases-fold_between : goal.decreases-fold_between
decreases-fold_between g l = 4 * l.end

abbrev pub decreases-fold_front : goal.decreases-fold_front
decreases-fold_front g l = 4 * l.end + 1

abbrev pub invariant-fold_below-along : goal.invariant-fold_below-along
invariant-fold_below-along g l = record {
  known : (t : Trees) × Searches l.kinds l.arena l.here l.low l.end t × AllowsEach (g.V.Visitor.allows l.visitor) (walk l.kinds t)
      × ((result : _) (new : _) → Visits g.V.Visitor.visits (walk l.kinds t) l.visitor result new
      → (u : Trees) → HasRoot l.arena l.fn.root u → Visits g.V.Visitor.visits (walk l.kinds u) l.fn.visitor result new);
  kept : (e : Elem) → g.V.Visitor.allows l.fn.visitor e → g.V.Visitor.allows l.visitor e;
}

abbrev pub decreases-fold_below-along : goal.decreases-fold_below-along
decreases-fold_below-along g l = l.end - l.low

abbrev pub invariant-fold_between-loop-place : goal.invariant-fold_between-loop-place
invariant-fold_between-loop-place g l = record {
  known : (ks : Trees) × HangsBetween l.kinds l.arena l.end (drop l.place l.node.run) (drop l.place l.node.links) ks
      × AllowsEach (g.V.Visitor.allows l.visitor) (woven_front (drop l.place l.node.run) (walks l.kinds ks))
      × ((result : _) (new : _) → Visits g.V.Visitor.visits (woven_front (drop l.place l.node.run) (walks l.kinds ks)) l.visitor result new
      → (ls : Trees) → HasLinks l.arena l.node.links ls
      → Visits g.V.Visitor.visits (woven_front l.node.run (walks l.kinds ls)) l.fn.visitor result new);
  kept : (e : Elem) → g.V.Visitor.allows l.fn.visitor e → g.V.Visitor.allows l.visitor e;
}
