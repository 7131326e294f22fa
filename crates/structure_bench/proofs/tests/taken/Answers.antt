use Rattle.node_arena.specs.Structures.{walk_of}
use Rattle.iter_gen.proofs.VisitsLemmas.{AllowsEach-always}
use Rattle.structure_bench.proofs.tests.taken.Goals as goal

pub fold-requires : goal.fold-requires
fold-requires c = record {
  sound = c.requires.sound;
  conforms = record {
    read = c.requires.conforms;
    allowed = AllowsEach-always (λ e. Unit {0}) (λ e. tt) (walk_of c.args.kinds.now c.requires.conforms.tree);
  };
}
