use Rattle.std.proofs.Common.{◌≡◌, ◌+◌, ◌∷◌, drop, Err, sym, subst}
use Rattle.iter_gen.specs.Visiting.{AllowsEach}
use Rattle.iter_gen.proofs.VisitsLemmas.{AllowsEach-kept, Visits-at, Visits-stopped-at, drop-at}
use Rattle.iter_gen.proofs.folding.fold_run.Goals as goal

pub loop-place-preserved : goal.loop-place-preserved
loop-place-preserved g c =
    let e : drop c.loop-place.place c.args.node.now.run ≡ c.in-Some.elem ∷ drop (c.loop-place.place + 1) c.args.node.now.run =
    drop-at c.args.node.now.run c.loop-place.place c.in-Some.elem (sym c.in-Some.ensures.value) in
    let all = subst (AllowsEach (g.V.Visitor.allows c.loop-place.visitor)) e c.loop-place.invariant.allowed in
    record {
      allowed =
          AllowsEach-kept (g.V.Visitor.allows c.loop-place.visitor) (g.V.Visitor.allows c.visit.new.self) (drop (c.loop-place.place + 1) c.args.node.now.run)
          c.visit.ensures.kept all.1;
      comes = λ result new h. c.loop-place.invariant.comes result new
          (Visits-at g.V.Visitor.visits (drop c.loop-place.place c.args.node.now.run) c.in-Some.elem (drop (c.loop-place.place + 1) c.args.node.now.run) e
          c.loop-place.visitor c.visit.new.self result new c.in-Ok.ensures.visited h);
      kept = λ e h. c.visit.ensures.kept e (c.loop-place.invariant.kept e h);
    }

pub returns-in-Err-clause-visits : goal.returns-in-Err-clause-visits
returns-in-Err-clause-visits g c =
    c.loop-place.invariant.comes (Err c.in-Err.stop) c.visit.new.self
    (Visits-stopped-at g.V.Visitor.visits (drop c.loop-place.place c.args.node.now.run) c.in-Some.elem (drop (c.loop-place.place + 1) c.args.node.now.run)
    (drop-at c.args.node.now.run c.loop-place.place c.in-Some.elem (sym c.in-Some.ensures.value)) c.loop-place.visitor c.in-Err.stop c.visit.new.self
    c.in-Err.ensures.visited)
