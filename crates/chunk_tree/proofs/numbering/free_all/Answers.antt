use Rattle.std.proofs.Common.{◌∙◌, arith}
use Rattle.chunk_tree.proofs.Freeing.{freed-one}
use Rattle.chunk_tree.proofs.numbering.free_all.Goals as goal

pub loop-id-preserved : goal.loop-id-preserved
loop-id-preserved c =
    let i = c.loop-id.invariant in
    record {
      freed = freed-one c.args.arena.now c.loop-id.arena c.args.ids.now c.loop-id.id-index c.id-item.result c.loop-id-test.true c.id-item.is i.freed
          c.free.new.self c.free.ensures.node;
      spare = λ low. (let e = i.spare low in let p = i.places in let f = c.free.ensures.spare (omega arith) in omega arith);
      kept = (let k = i.kept in let f = c.free.ensures.kept in omega arith);
      places = c.free.ensures.node.node.places ∙ i.places;
      most = c.free.ensures.node.node.most ∙ i.most;
      runs = c.free.ensures.node.runs ∙ i.runs;
    }
