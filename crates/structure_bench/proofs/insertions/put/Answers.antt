use Rattle.std.proofs.Common.{refl}
use Rattle.node_arena.specs.Kinds.{kinds_of}
use Rattle.node_arena.proofs.KindsLemmas.{Serves-kept}
use Rattle.structure_bench.proofs.GrowingLemmas.{grown-answer}
use Rattle.structure_bench.proofs.insertions.put.Goals as goal

pub returns : goal.returns
returns g c = record {
  grown = grown-answer _ _ _ _ _ _ _ _ _ refl c.if-place-free.false c.requires.grown _ c.put_new.ensures.takes
      (Serves-kept (kinds_of c.args.code.now) c.args.arena.now c.put_new.new.arena c.put_new.ensures.most c.requires.grown.serves) c.put_new.ensures.len;
}
