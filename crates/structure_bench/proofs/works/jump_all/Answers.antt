use Rattle.std.proofs.Common.{sym, subst}
use Rattle.iter_gen.specs.Walkers.{CanBeWalked}
use Rattle.structure_bench.proofs.works.jump_all.Goals as goal

pub reopen-requires : goal.reopen-requires
reopen-requires g c = record {
  conforms = subst (λ s. CanBeWalked s c.args.arena.now c.args.structure.now) (sym c.loop.invariant) c.requires.conforms;
}
