use Rattle.std.proofs.Common.{All, Some, sym, subst}
use Rattle.std.proofs.lemmas.List.Elements.{All-push, All-pop}
use Rattle.fiber_latch.specs.Trial.{IsFree}
use Rattle.fiber_latch.proofs.TrialGoodLemmas.{free_again}
use Rattle.fiber_latch.proofs.tests.hold_in_turn.Goals as goal

pub loop-turn-preserved : goal.loop-turn-preserved
loop-turn-preserved g c =
    let table = c.args.latches.now in
    let holder = c.in-Some.holder in
    let free = (All-pop (IsFree table) c.loop-turn.waiting.items c.pop.new.self.items (Some holder) c.in-Some.ensures.items c.loop-turn.invariant.waiting).1 in
    let again = free_again _ c.args.latch c.first-session.result table holder c.try_take.new.seat c.give.new.seat c.in-Ok.kept free c.in-Ok.ensures.ok
    c.give.ensures.seat in
    record {
      waiting = c.in_ok-waiting.ensures.seats;
      done = subst (All (IsFree table)) (sym c.in_ok-push.ensures.items)
          (All-push (IsFree table) c.in_ok-done.done.items c.give.new.seat c.in_ok-done.ensures.seats again);
    }
