use Rattle.chunk_tree.proofs.RowTrialLemmas.{before-rooted}
use Rattle.chunk_tree.proofs.mixed_tests.tried.Goals as goal

pub written-requires-in-Err-clause-rooted : goal.written-requires-in-Err-clause-rooted
written-requires-in-Err-clause-rooted g c =
    let held = c.row-old.ensures.holds c.args.kinds.now c.requires.kinds in
    (before-rooted c.args.kinds.now c.row-old.new.arena c.rebalance.new.arena c.row-old.result held.0 held.1 c.in-Err.ensures.err).0
