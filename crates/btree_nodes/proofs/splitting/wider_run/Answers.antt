use Rattle.std.proofs.Common.{rules, ◌<◌, length}
use Rattle.node_arena.specs.Arenas.{node_at}
use Rattle.btree_nodes.proofs.WiderLemmas.{take-set-node}
use Rattle.btree_nodes.proofs.splitting.wider_run.Goals as goal

pub loop-i-preserved : goal.loop-i-preserved
loop-i-preserved c =
    let l : c.loop-i.i < length c.loop-i.run = search rules in
    take-set-node (node_at c.args.arena.now c.args.node) c.args.place c.args.elem.now c.loop-i.run c.loop-i.i c.wider_elem.result l
    c.loop-i.invariant c.wider_elem.ensures.value
