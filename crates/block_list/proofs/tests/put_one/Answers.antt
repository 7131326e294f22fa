use Rattle.block_list.proofs.Filling.{can-put-at, put-at}
use Rattle.block_list.proofs.tests.put_one.Goals as goal

pub insert-step-requires-clause-stands : goal.insert-step-requires-clause-stands
insert-step-requires-clause-stands g c = (
  c.requires.holds.0,
  can-put-at c.args.kinds.now c.requires.sound c.args.arena.now c.args.arena.now c.elem.result c.args.at c.elem.ensures.at
      c.args.node c.args.count c.args.marks.now c.requires.holds.0 c.requires.holds.1 c.if-marks-at.false,
)

pub returns-clause-holds : goal.returns-clause-holds
returns-clause-holds g c =
    let can = can-put-at c.args.kinds.now c.requires.sound c.args.arena.now c.args.arena.now c.elem.result c.args.at c.elem.ensures.at
    c.args.node c.args.count c.args.marks.now c.requires.holds.0 c.requires.holds.1 c.if-marks-at.false in
    put-at c.args.kinds.now c.requires.sound c.args.arena.now c.insert-step.new.arena c.elem.result c.args.at c.elem.ensures.at
    c.args.node c.args.count c.args.marks.now c.requires.holds.0 c.requires.holds.1 c.requires.in_range c.if-marks-at.false c.requires.low
    c.insert-step.result c.args.steps.now c.insert-step.new.steps (c.insert-step.ensures.left c.requires.holds.0 can)
