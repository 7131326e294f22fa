use Rattle.std.proofs.Common.{drop}
use Rattle.node_arena.specs.declared.elements.Elem.{Elem}
use Rattle.iter_gen.specs.Visiting.{Visits, AllowsEach}
use Rattle.iter_gen.proofs.folding.fold_run.Given as goal

abbrev pub invariant-loop-place : goal.invariant-loop-place
invariant-loop-place g l = record {
  allowed : AllowsEach (g.V.Visitor.allows l.visitor) (drop l.place l.node.run);
  comes : (result : _) (new : _) → Visits g.V.Visitor.visits (drop l.place l.node.run) l.visitor result new
      → Visits g.V.Visitor.visits l.node.run l.fn.visitor result new;
  kept : (e : Elem) → g.V.Visitor.allows l.fn.visitor e → g.V.Visitor.allows l.visitor e;
}
