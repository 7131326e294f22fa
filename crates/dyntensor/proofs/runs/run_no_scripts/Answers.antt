use Rattle.dyntensor.proofs.RunLemmas.{IsWhole-first, IsFinished-none}
use Rattle.dyntensor.proofs.runs.run_no_scripts.Goals as goal

pub close-requires : goal.close-requires
close-requires c =
    let whole = IsWhole-first c.in_ok-engine.engine c.in_ok-engine.seat c.in_ok-engine.ensures.seat in
    record { engine = whole.belongs; sessions = (whole.first, whole.last); idle = whole.idle }

pub returns : goal.returns
returns c = record {
  finished = IsFinished-none c.args.world.now 1 1 c.in_ok-engine.engine c.in_ok-engine.seat c.close.result c.requires.none
      c.in_ok-engine.ensures.engine c.in_ok-engine.ensures.seat c.close.ensures.journal c.close.ensures.stores;
}
