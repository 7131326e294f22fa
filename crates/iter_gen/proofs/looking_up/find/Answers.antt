use Rattle.node_arena.specs.Structures.{links_of}
use Rattle.iter_gen.proofs.FoundLemmas.{Searches-root}
use Rattle.iter_gen.proofs.looking_up.find.Goals as goal

pub find_below-requires-clause-searches : goal.find_below-requires-clause-searches
find_below-requires-clause-searches c =
    let q = c.requires.conforms in (
      links_of q.tree,
      Searches-root c.args.kinds.now c.args.arena.now c.requires.sound.some c.args.structure.now q.kind q.tree c.in-Node.root
          q.stands q.conforms c.in-Node.is,
    )
