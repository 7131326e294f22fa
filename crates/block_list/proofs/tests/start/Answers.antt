use Rattle.block_list.proofs.Filling.{start-at}
use Rattle.block_list.proofs.tests.start.Goals as goal

pub returns-clause-holds : goal.returns-clause-holds
returns-clause-holds g c =
    start-at c.args.kinds.now c.requires.sound c.args.arena.now c.make.new.self c.elem.result c.args.at c.elem.ensures.at
    c.make.result c.args.marks.now c.requires.chain c.requires.in_range c.make.ensures.node
