use Rattle.std.proofs.Common.{arith}
use Rattle.node_arena.proofs.ChangesLemmas.{DifferInFew-one}
use Rattle.insert_gen.proofs.FirstLemmas.{first-made, hi-linked}
use Rattle.insert_gen.proofs.links.make_first.Goals as goal

pub make_bare-requires-clause-most : goal.make_bare-requires-clause-most
make_bare-requires-clause-most g c =
    let some = hi-linked c.args.kinds.now c.args.kind c.requires.sound c.requires.linked in
    let fits = c.requires.serves c.args.kind in
    omega (arith, some, fits)

pub returns-clause-first : goal.returns-clause-first
returns-clause-first g c =
    first-made c.args.kinds.now c.args.kind c.args.arena.now c.make_bare.new.arena c.args.elem c.make_bare.result c.requires.sound c.requires.linked
    c.make_bare.ensures.is_new c.make_bare.ensures.node

pub returns-clause-few : goal.returns-clause-few
returns-clause-few g c = DifferInFew-one c.args.arena.now c.make_bare.new.arena c.make_bare.result _ c.make_bare.ensures.node
