use Rattle.std.proofs.Common.{◌++◌, ap, ◌∙◌}
use Rattle.node_arena.specs.Structures.{walk_of}
use Rattle.chunk_tree.proofs.Handed.{kept-all}
use Rattle.nested_modes.specs.contracts.listing.ElementsVisitor.TheImpl as gathers
use Rattle.nested_modes.proofs.listing.gather.Goals as goal

pub returns : goal.returns
returns c = record {
  ok = λ t stands.
      kept-all (λ v. v.elems.items) gathers.ghosts.visits (λ old e new adds. adds) (walk_of c.args.kinds.now t)
      (record { elems = c.clear.new.self }) c.fold.new.visitor c.fold.result c.in_ok-fold.was
      (c.fold.ensures.visits t stands)
      ∙ ap (λ l. l ++ walk_of c.args.kinds.now t) c.clear.ensures.items;
}
