use Rattle.bulk_build.proofs.ReadingLemmas.{top-built, top-kept, top-same}
use Rattle.bulk_build.proofs.tests.left.Goals as goal

pub seen-requires-clause-there : goal.seen-requires-clause-there
seen-requires-clause-there g c = top-kept _ _ _ _ _ _ _ c.in-Ok.ensures.ok (top-built _ _ _ _ _ _ c.in_ok-old.ensures.ok)

pub seen-requires-in-Err-clause-there : goal.seen-requires-in-Err-clause-there
seen-requires-in-Err-clause-there g c = top-same _ _ _ c.in-Err.ensures.err (top-built _ _ _ _ _ _ c.in_ok-old.ensures.ok)
