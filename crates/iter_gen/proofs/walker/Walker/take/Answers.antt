use Rattle.std.proofs.Math.Logic.{∥∥₁_elim, ∥∥₁_map}
use Rattle.std.proofs.Props.{props}
use Rattle.std.proofs.Common.{sym, subst, drop}
use Rattle.iter_gen.specs.Walkers.{AreLeft}
use Rattle.iter_gen.proofs.RunsLemmas.{HasAt, run-some}
use Rattle.iter_gen.proofs.WalkersLemmas.{run-of, path-of, run-taken, path-taken}
use Rattle.iter_gen.proofs.walker.Walker.take.Goals as goal

pub elem-requires : goal.elem-requires
elem-requires c = record {
  there = ∥∥₁_elim c.self.invariant (hlevel props) (λ l. run-some _ (HasAt c.in-Some.spot l.0) (run-of _ l.0 l.1 c.in-Some.spot c.in-Some.is));
}

pub invariant_of-self : goal.invariant_of-self
invariant_of-self c =
    ∥∥₁_map c.self.invariant (λ l. (
      drop 1 l.0,
      (run-taken _ l.0 l.1 c.in-Some.spot c.next.result c.elem.result c.in-Some.is c.next.ensures.value c.elem.ensures.value).others,
    ))

pub step-requires : goal.step-requires
step-requires c = record { there = ∥∥₁_map c.self.invariant (λ l. (l.0, path-of _ l.0 l.1 c.kinds.result.now c.kinds.ensures.value c.in-None.is)) }

pub invariant_of-self-in-None : goal.invariant_of-self-in-None
invariant_of-self-in-None c =
    ∥∥₁_map c.self.invariant (λ l.
    (drop 1 l.0, (path-taken _ l.0 l.1 c.kinds.result.now c.step.new.path.items c.step.result c.kinds.ensures.value c.in-None.is c.step.ensures.next).others))

pub returns-in-Some-clause-next : goal.returns-in-Some-clause-next
returns-in-Some-clause-next c = λ xs l.
    run-taken _ xs (subst (λ w. AreLeft w xs) (sym c.self.view_is) l) c.in-Some.spot c.next.result c.elem.result c.in-Some.is
    c.next.ensures.value c.elem.ensures.value
