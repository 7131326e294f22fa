use Rattle.std.proofs.Common.{◌≡◌, ◌∙◌, map, ap, arith}
use Rattle.node_arena.specs.Kinds.{kinds_of, shape_at}
use Rattle.iter_gen.specs.Acts.{acts_of, acted}
use Rattle.iter_gen.proofs.ActsLemmas.{acts-at, acts_of-order}
use Rattle.iter_gen.proofs.codes.WalkCode.acts.Goals as goal

value : (c : goal.After-as_slice) → c.as_slice.result.now ≡ acts_of (shape_at (kinds_of c.args.self.now) c.args.kind)
value c =
    c.as_slice.ensures.value ∙ ap (λ a. a.items) c.in-Some.ensures.lookup.1
    ∙ acts-at (λ a. a.items) c.deref.result.now c.self.inside.kinds.items c.args.kind c.in-Some.acts.now
    (ap (map (λ a. a.items)) c.deref.ensures.0 ∙ c.self.invariant.2) (grind (arith, c.in-Some.ensures.lookup.0))
    ∙ ap (λ ks. acts_of (shape_at ks c.args.kind)) (c.self.invariant.0 ∙ ap kinds_of c.self.view_is)

pub returns-in-Some-clause-value : goal.returns-in-Some-clause-value
returns-in-Some-clause-value c = value c

pub returns-in-Some-clause-order : goal.returns-in-Some-clause-order
returns-in-Some-clause-order c = λ run ls h.
    ap (λ acts. acted acts run ls) (value c) ∙ acts_of-order (shape_at (kinds_of c.args.self.now) c.args.kind) run ls h
