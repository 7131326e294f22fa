use Rattle.chunk_tree.proofs.RowTrialLemmas.{woven-holds}
use Rattle.chunk_tree.proofs.mixed_tests.three_nodes.Goals as goal

pub returns-clause-holds : goal.returns-clause-holds
returns-clause-holds g c =
    woven-holds c.args.arena.now c.make-before.new.self c.make-behind.new.self c.make-root.new.self c.make-before.result c.make-behind.result
    c.make-root.result c.args.spine c.elem.result c.elem-3.result c.elem-4.result c.elem-2.result
    c.elem.ensures.at c.elem-3.ensures.at c.elem-4.ensures.at c.elem-2.ensures.at
    c.make-before.ensures.is_new c.make-before.ensures.node c.make-behind.ensures.is_new c.make-behind.ensures.node c.make-root.ensures.is_new
    c.make-root.ensures.node c.requires.some c.requires.low
