use Rattle.chunk_tree.proofs.TrialLemmas.{grown-first}
use Rattle.chunk_tree.proofs.tests.first.Goals as goal

pub returns : goal.returns
returns g c = record {
  grown = grown-first c.args.kinds.now c.args.arena.now c.make-root.new.self c.args.top c.args.free.now c.args.more c.elem.result c.args.at c.make-root.result
      c.requires.kind c.elem.ensures.at c.requires.within c.requires.more c.requires.grown c.requires.nothing
      c.make-root.ensures.is_new c.make-root.ensures.node c.make-root.ensures.spare;
}
