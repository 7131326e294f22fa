use Rattle.std.proofs.Common.{◌++◌, ap, ◌∙◌}
use Rattle.node_arena.specs.Structures.{walk_of}
use Rattle.chunk_tree.specs.contracts.collecting.CollectedVisitor.TheImpl as collects
use Rattle.chunk_tree.proofs.Handed.{kept-all}
use Rattle.chunk_tree.proofs.collecting.elements.Goals as goal

pub returns : goal.returns
returns c = record {
  ok = λ t stands.
      kept-all (λ v. v.elems.items) collects.ghosts.visits (λ old e new adds. adds) (walk_of c.args.kinds.now t)
      (record { elems = c.in_ok-with_capacity.field-0 }) c.fold.new.visitor c.fold.result c.in_ok-fold.was
      (c.fold.ensures.visits t stands)
      ∙ ap (λ l. l ++ walk_of c.args.kinds.now t) c.in_ok-with_capacity.ensures.items;
}
