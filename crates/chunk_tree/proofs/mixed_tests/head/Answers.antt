use Rattle.std.proofs.Common.{refl, ap, ◌∙◌}
use Rattle.chunk_tree.specs.RowTrials.{root_shape}
use Rattle.chunk_tree.proofs.RowTrialLemmas.{row-more, row-behind}
use Rattle.chunk_tree.proofs.mixed_tests.head.Goals as goal

pub returns-then-chained-clause-row : goal.returns-then-chained-clause-row
returns-then-chained-clause-row g c = λ s n h r.
    row-behind s c.args.chained h 0 c.args.arena.now c.make.new.self c.args.behind 0 1 n c.make.result c.elem.result
    (h.root ∙ ap root_shape c.if-chained.true) r refl c.elem.ensures.at c.make.ensures.is_new c.make.ensures.node

pub returns-clause-row : goal.returns-clause-row
returns-clause-row g c = λ s n h r.
    row-more s c.args.chained h 0 c.args.arena.now c.make-2.new.self c.args.behind 0 1 n c.make-2.result c.elem-2.result
    (h.root ∙ ap root_shape c.if-chained.false) r refl c.elem-2.ensures.at c.make-2.ensures.is_new c.make-2.ensures.node
