use Rattle.structure_bench.proofs.GrowingLemmas.{TakesIn-put, TakesIn-same}
use Rattle.structure_bench.proofs.insertions.put_new.Goals as goal

pub returns-clause-takes : goal.returns-clause-takes
returns-clause-takes g c = λ t h.
    let same = c.in_ok-top.ensures.same t h in
    let p = c.insert.ensures.walk same.tree (c.make_room.ensures.stands same.tree same.stands) in
    TakesIn-same _ _ _ _ _ _ _ same.walk_is (TakesIn-put _ _ _ _ _ _ _ p)
