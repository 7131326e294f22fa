use Rattle.std.proofs.Common.{arith}
use Rattle.node_arena.specs.Kinds.{kinds_of, root_of}
use Rattle.insert_gen.proofs.NeedsLemmas.{nodes-rise}
use Rattle.insert_gen.proofs.needs.need.Goals as goal

pub returns-clause-rises : goal.returns-clause-rises
returns-clause-rises c = λ len n l w.
    let kinds = kinds_of c.args.code.now in
    let root = root_of c.args.code.now in
    let r = nodes-rise kinds root c.args.top.now.len len c.digits.result n l (c.digits.ensures.above, c.digits.ensures.least) w in
    grind (arith, r, c.nodes_for.ensures.value, c.kind_of-shape.ensures.value, c.root.ensures.value, c.kinds-kinds.ensures.value)
