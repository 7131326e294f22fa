use Rattle.std.proofs.Common.{sym, subst}
use Rattle.node_arena.specs.Structures.{walk_of}
use Rattle.iter_gen.specs.LookingUp.{CanBeRead}
use Rattle.iter_gen.proofs.VisitsLemmas.{AllowsEach-always}
use Rattle.structure_bench.proofs.works.fold_all.Goals as goal

pub fold-requires : goal.fold-requires
fold-requires c =
    let q = subst (λ s. CanBeRead s c.args.arena.now c.args.structure.now) (sym c.kinds.ensures.value) c.requires.conforms in
    record {
      sound = c.kinds.ensures.sound;
      conforms = record { read = q; allowed = AllowsEach-always (λ e. Unit {0}) (λ e. tt) (walk_of c.kinds.result.now q.tree) };
    }
