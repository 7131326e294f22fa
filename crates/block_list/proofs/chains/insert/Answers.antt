use Rattle.node_arena.specs.Arenas.{node_at}
use Rattle.block_list.proofs.Parting.{alone-pass, behind-passes}
use Rattle.block_list.proofs.chains.insert.Goals as goal

pub put_run-requires-clause-stands : goal.put_run-requires-clause-stands
put_run-requires-clause-stands g c = (c.requires.stands.0, c.in-Into.ensures.finds c.requires.stands.0 c.requires.stands.1)

pub returns-in-Behind-clause-left : goal.returns-in-Behind-clause-left
returns-in-Behind-clause-left g c = λ t h.
    alone-pass c.args.kinds.now c.args.arena.now c.args.elem c.requires.sound c.in-Behind.here t c.copied.result c.args.steps.now
    (c.in-Behind.ensures.finds t h) c.copied.ensures.items

pub returns-in-Behind-clause-passes : goal.returns-in-Behind-clause-passes
returns-in-Behind-clause-passes g c =
    behind-passes c.args.kinds.now c.args.elem.at (node_at c.args.arena.now c.in-Behind.here)
    (c.in-Behind.ensures.finds c.requires.stands.0 c.requires.stands.1).1
