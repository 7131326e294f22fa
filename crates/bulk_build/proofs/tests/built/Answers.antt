use Rattle.bulk_build.proofs.ReadingLemmas.{top-built, top-kept}
use Rattle.bulk_build.proofs.tests.built.Goals as goal

pub nodes_of-requires : goal.nodes_of-requires
nodes_of-requires g c = record {
  there = top-kept _ _ _ _ _ _ _ c.in_ok-new.ensures.ok (top-built _ _ _ _ _ _ c.in_ok-old.ensures.ok);
}
