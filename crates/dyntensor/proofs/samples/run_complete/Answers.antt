use Rattle.std.proofs.Common.{◌∙◌, ap, sym, subst, length}
use Rattle.fiber_latch.specs.declared.view.TableConfig.{TableConfig}
use Rattle.fiber_latch.specs.Seats.{config_for}
use Rattle.std.specs.List.{list_all}
use Rattle.sessions.specs.Running.{CanRun}
use Rattle.sessions.proofs.RunningLemmas.{CanRun-first}
use Rattle.dyntensor.specs.Finished.{is_settled}
use Rattle.dyntensor.proofs.RunLemmas.{IsWhole-first, IsWhole-run}
use Rattle.dyntensor.proofs.SampleLemmas.{IsComplete-run}
use Rattle.dyntensor.proofs.samples.run_complete.Goals as goal

pub close-requires : goal.close-requires
close-requires c =
    let first = IsWhole-first c.in_ok-engine.engine c.in_ok-engine.seat c.in_ok-engine.ensures.seat in
    let whole = IsWhole-run c.in_ok-engine.engine c.args.world.now.scripts c.in_ok-engine.seat c.in_ok-whole.whole first c.in_ok-whole.ensures.run in
    record { engine = whole.belongs; sessions = (whole.first, whole.last); idle = whole.idle }

pub returns-then-are_all_settled : goal.returns-then-are_all_settled
returns-then-are_all_settled c =
    let w = c.args.world.now in
    let engine = c.in_ok-engine.engine in
    let n = c.most_calls.result in
    let opened = c.in_ok-engine.ensures.engine ∙ ap (λ k. config_for w k n) c.len-sessions.ensures.value in
    let can = subst (CanRun w.scripts) (sym c.in_ok-engine.ensures.seat)
    (CanRun-first engine w.scripts c.requires.some (ap (λ (x : TableConfig). x.sessions) opened)) in
    let settled = ap (list_all (list_all is_settled)) (sym c.as_slice-2.ensures.value) ∙ sym c.are_all_settled.ensures.value
    ∙ c.if-are_all_settled.true in
    record {
      complete = IsComplete-run w n engine c.in_ok-engine.seat c.in_ok-whole.whole c.close.result c.in_ok-whole.outcomes opened c.most_calls.ensures.few.1 can
          c.in_ok-whole.ensures.run c.close.ensures.journal c.close.ensures.legal c.close.ensures.stores c.in_ok-whole.ensures.outcomes settled;
    }
