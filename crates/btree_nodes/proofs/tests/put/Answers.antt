use Rattle.std.proofs.Common.{arith}
use Rattle.btree_nodes.proofs.TrialLemmas.{grown-put}
use Rattle.btree_nodes.proofs.tests.put.Goals as goal

pub insert-requires-clause-spare : goal.insert-requires-clause-spare
insert-requires-clause-spare g c =
    let few = c.requires.grown.few in
    let spare = c.requires.grown.spare in
    let more = c.requires.more in
    (12, omega arith, omega arith)

pub returns : goal.returns
returns g c =
    let few = c.requires.grown.few in
    let more = c.requires.more in
    record {
      grown = grown-put _ _ _ _ _ _ _ c.elem.result c.args.at c.elem.ensures.at c.if-place-free.false more c.requires.grown
          (c.insert.ensures.walk c.requires.grown.tree c.requires.grown.stands) c.insert.ensures.most
          (c.insert.ensures.spare 12 (omega arith)) c.insert.ensures.len;
    }
