use Rattle.node_arena.specs.Arenas.{run_at}
use Rattle.iter_gen.proofs.VisitsLemmas.{flat-allowed, flat-next, flat-stopped}
use Rattle.iter_gen.proofs.folding.fold_flat.Goals as goal

pub visit-requires : goal.visit-requires
visit-requires g c = record {
  allowed = flat-allowed g.V.Visitor.allows g.V.Visitor.visits c.args.visitor.now c.loop-place.visitor c.loop-place.place c.in-Some.elem
      (run_at c.args.arena.now c.args.run) c.loop-place.invariant c.in-Some.ensures.value;
}

pub returns-in-Err : goal.returns-in-Err
returns-in-Err g c = record {
  visits = flat-stopped g.V.Visitor.allows g.V.Visitor.visits c.args.visitor.now c.loop-place.visitor c.loop-place.place c.in-Some.elem c.in-Err.stop
      c.visit.new.self (run_at c.args.arena.now c.args.run) c.loop-place.invariant c.in-Some.ensures.value c.in-Err.ensures.visited;
}

pub loop-place-preserved : goal.loop-place-preserved
loop-place-preserved g c =
    flat-next g.V.Visitor.allows g.V.Visitor.visits c.args.visitor.now c.loop-place.visitor c.loop-place.place c.in-Some.elem c.visit.new.self
    (run_at c.args.arena.now c.args.run) c.loop-place.invariant c.in-Some.ensures.value c.in-Ok.ensures.visited c.visit.ensures.kept
