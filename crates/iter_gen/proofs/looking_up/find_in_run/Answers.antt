use Rattle.node_arena.specs.Arenas.{run_at}
use Rattle.iter_gen.proofs.FoundLemmas.{run-found, run-above, run-last}
use Rattle.iter_gen.proofs.looking_up.find_in_run.Goals as goal

pub returns-in-None : goal.returns-in-None
returns-in-None c = record {
  found = run-last c.args.at c.args.run c.run_place-place.result (run_at c.args.arena.now c.args.run) c.run_place-place.ensures.value c.in-None.ensures.value;
}

pub returns-then-elem-at : goal.returns-then-elem-at
returns-then-elem-at c = record {
  found = run-found c.args.at c.args.run c.run_place-place.result (run_at c.args.arena.now c.args.run) c.in-Some.elem c.run_place-place.ensures.value
      c.in-Some.ensures.value c.if-elem-at.true;
}

pub returns-else-elem-at : goal.returns-else-elem-at
returns-else-elem-at c = record {
  found = run-above c.args.at c.args.run c.run_place-place.result (run_at c.args.arena.now c.args.run) c.in-Some.elem c.requires.rising
      c.run_place-place.ensures.value c.in-Some.ensures.value c.if-elem-at.false;
}
