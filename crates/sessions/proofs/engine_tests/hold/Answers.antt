use Rattle.sessions.proofs.TrialSeatsLemmas.{IsHolding-taken}
use Rattle.sessions.proofs.engine_tests.hold.Goals as goal

pub returns : goal.returns
returns g c = record {
  holds = IsHolding-taken c.args.engine.now c.args.latch c.args.session c.args.seat.now c.try_take.new.seat c.in-Ok.kept c.in-Ok.ensures.ok c.requires.seat;
}
