use Rattle.insert_gen.proofs.TrialLemmas.{grown-put}
use Rattle.insert_gen.proofs.tests.put.Goals as goal

pub returns : goal.returns
returns g c = record {
  grown = grown-put _ _ _ _ _ _ _ c.elem.result c.args.at c.elem.ensures.at c.if-place-free.false c.prepare.ensures.grown
      (c.insert-new.ensures.walk c.prepare.ensures.grown.tree c.prepare.ensures.grown.stands) c.insert-new.ensures.most;
}
