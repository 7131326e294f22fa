use Rattle.std.proofs.Common.{sym, subst}
use Rattle.iter_gen.specs.Walkers.{CanBeWalked}
use Rattle.iter_gen.proofs.tests.is_right_through.Goals as goal

pub reopen-requires : goal.reopen-requires
reopen-requires g c = record { conforms = subst (λ s. CanBeWalked s c.args.arena.now c.args.top) (sym c.turns.invariant) c.requires.conforms }

pub reopen-requires-2 : goal.reopen-requires-2
reopen-requires-2 g c = record { conforms = subst (λ s. CanBeWalked s c.args.arena.now c.args.top) (sym c.turns.invariant) c.requires.conforms }
