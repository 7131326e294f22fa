use Rattle.std.proofs.Math.Logic.{∥∥₁_elim}
use Rattle.std.proofs.Props.{props}
use Rattle.std.proofs.Common.{◌≡◌, ◌≤◌, Option, Some, subst}
use Rattle.node_arena.specs.declared.elements.Elem.{Elem}
use Rattle.node_arena.specs.Conforming.{IsRising}
use Rattle.iter_gen.proofs.RunsLemmas.{HasAt, run-some, run-and, run-prop, searched, stayed}
use Rattle.iter_gen.proofs.paths.RunSpot.behind.Goals as goal
use Rattle.iter_gen.proofs.paths.RunSpot.behind.Goals.{in_default-via-in-Some+else-elem-at, in_default-via-in_default}

pub run_elem-requires : goal.run_elem-requires
run_elem-requires c = record { there = ∥∥₁_elim c.requires.there (hlevel props) (λ p. run-some _ (HasAt c.args.self.now p.0) p.1) }

pub run_place-requires : goal.run_place-requires
run_place-requires c = record {
  there = ∥∥₁_elim c.requires.there (run-prop _) (λ p. run-and _ (HasAt c.args.self.now p.0) (λ r. IsRising r.elems) p.1 (λ r h. h.1));
}

pub returns-in-Some : goal.returns-in-Some
returns-in-Some c = record {
  has =
      λ xs h. searched c.args.arena.now c.args.self.now c.args.at xs h c.in-Some.elem c.run_place.result
      c.in-Some.ensures.value c.if-elem-at.true c.run_place.ensures.value;
}

some-same : (o : Option Elem) (x y : Elem) → o ≡ Some x → o ≡ Some y → x ≡ y
some-same o x y e f = cc

pub returns-in_default : goal.returns-in_default
returns-in_default c = record {
  has = λ xs h.
      stayed c.args.arena.now c.args.self.now c.args.at xs h c.run_elem.result c.run_elem.ensures.value
      (elim c.in_default.branch as (λ b. (x : Elem) → c.run_elem.result ≡ Some x → c.args.at ≤ x.at) [
        | in_default-via-in-Some+else-elem-at w ↦ λ x e.
            subst (λ (y : Elem). c.args.at ≤ y.at) (some-same c.run_elem.result w.in-Some.elem x w.in-Some.is e) w.if-elem-at.false
        | in_default-via-in_default w ↦ λ x e. absurd (w.in_default.not-Some x e)
      ]);
}
