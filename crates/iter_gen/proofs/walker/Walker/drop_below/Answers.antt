use Rattle.std.proofs.Math.Logic.{∥∥₁_map}
use Rattle.std.proofs.Common.{sym, subst}
use Rattle.iter_gen.specs.Frames.{from}
use Rattle.iter_gen.specs.Walkers.{AreLeft}
use Rattle.iter_gen.proofs.WalkersLemmas.{run-of, path-of, run-dropped, path-dropped}
use Rattle.iter_gen.proofs.walker.Walker.drop_below.Goals as goal

pub behind-requires : goal.behind-requires
behind-requires c = record { there = ∥∥₁_map c.self.invariant (λ l. (l.0, run-of _ l.0 l.1 c.in-Some.spot c.in-Some.is)) }

pub invariant_of-self : goal.invariant_of-self
invariant_of-self c =
    ∥∥₁_map c.self.invariant (λ l. (from c.args.at l.0, run-dropped _ l.0 l.1 c.args.at c.in-Some.spot c.behind.result c.in-Some.is c.behind.ensures.has))

pub skip-requires : goal.skip-requires
skip-requires c = record { there = ∥∥₁_map c.self.invariant (λ l. (l.0, path-of _ l.0 l.1 c.kinds.result.now c.kinds.ensures.value c.in-None.is, l.1.rising)) }

pub invariant_of-self-in-None : goal.invariant_of-self-in-None
invariant_of-self-in-None c =
    ∥∥₁_map c.self.invariant (λ l.
    (from c.args.at l.0, path-dropped _ l.0 l.1 c.args.at c.kinds.result.now c.skip.new.path.items c.kinds.ensures.value c.in-None.is c.skip.ensures.left))

pub returns-in-Some-clause-left : goal.returns-in-Some-clause-left
returns-in-Some-clause-left c = λ xs l.
    run-dropped _ xs (subst (λ w. AreLeft w xs) (sym c.self.view_is) l) c.args.at c.in-Some.spot c.behind.result c.in-Some.is c.behind.ensures.has

pub returns-in-None-clause-left : goal.returns-in-None-clause-left
returns-in-None-clause-left c = λ xs l.
    path-dropped _ xs (subst (λ w. AreLeft w xs) (sym c.self.view_is) l) c.args.at c.kinds.result.now c.skip.new.path.items c.kinds.ensures.value c.in-None.is
    c.skip.ensures.left
