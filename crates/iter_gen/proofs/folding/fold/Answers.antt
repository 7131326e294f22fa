use Rattle.std.proofs.Common.{subst}
use Rattle.node_arena.specs.Structures.{links_of}
use Rattle.iter_gen.specs.Visiting.{AllowsEach}
use Rattle.iter_gen.proofs.FoundLemmas.{Searches-root, walk-root}
use Rattle.iter_gen.proofs.folding.fold.Goals as goal

pub fold_below-requires-clause-searches : goal.fold_below-requires-clause-searches
fold_below-requires-clause-searches g c =
    let q = c.requires.conforms.read in
    record {
      tree = links_of q.tree;
      searches = Searches-root c.args.kinds.now c.args.arena.now c.requires.sound.some c.args.structure.now q.kind q.tree c.in-Node.root q.stands q.conforms
          c.in-Node.is;
      allowed = subst (AllowsEach (g.V.Visitor.allows c.args.visitor.now))
          (walk-root c.args.kinds.now c.args.arena.now c.requires.sound.some c.args.structure.now q.tree c.in-Node.root q.stands c.in-Node.is)
          c.requires.conforms.allowed;
    }
