use Rattle.std.proofs.Common.{◌∙◌, ap, sym, subst, length}
use Rattle.fiber_latch.specs.declared.view.TableConfig.{TableConfig}
use Rattle.fiber_latch.specs.Seats.{config_for}
use Rattle.sessions.specs.Running.{CanRun}
use Rattle.sessions.proofs.RunningLemmas.{CanRun-first}
use Rattle.dyntensor.proofs.RunLemmas.{IsWhole-first, IsWhole-run, IsFinished-run, few_sessions, session_text}
use Rattle.dyntensor.proofs.runs.run_scripts.Goals as goal

pub write_sessions-requires : goal.write_sessions-requires
write_sessions-requires g c = record {
  few = few_sessions c.args.world.now c.in_ok-engine.engine.config.world c.in_ok-whole.whole.seen c.as_slice-2.result.now c.requires.valid
      (c.as_slice-2.ensures.value ∙ c.in_ok-whole.ensures.outcomes);
}

pub close-requires : goal.close-requires
close-requires g c =
    let first = IsWhole-first c.in_ok-engine.engine c.in_ok-engine.seat c.in_ok-engine.ensures.seat in
    let whole = IsWhole-run c.in_ok-engine.engine c.args.world.now.scripts c.in_ok-engine.seat c.in_ok-whole.whole first c.in_ok-whole.ensures.run in
    record { engine = whole.belongs; sessions = (whole.first, whole.last); idle = whole.idle }

pub returns-clause-finished : goal.returns-clause-finished
returns-clause-finished g c =
    let w = c.args.world.now in
    let engine = c.in_ok-engine.engine in
    let n = c.most_calls.result in
    let opened = c.in_ok-engine.ensures.engine ∙ ap (λ k. config_for w k n) c.len-sessions.ensures.value in
    let can = subst (CanRun w.scripts) (sym c.in_ok-engine.ensures.seat)
    (CanRun-first engine w.scripts c.requires.some (ap (λ (x : TableConfig). x.sessions) opened)) in
    IsFinished-run w n engine c.in_ok-engine.seat c.in_ok-whole.whole c.close.result opened c.most_calls.ensures.few.1 can c.in_ok-whole.ensures.run
    c.close.ensures.journal c.close.ensures.legal c.close.ensures.stores

pub returns-clause-rows : goal.returns-clause-rows
returns-clause-rows g c =
    let w = c.args.world.now in
    let n = c.most_calls.result in
    let opened = c.in_ok-engine.ensures.engine ∙ ap (λ k. config_for w k n) c.len-sessions.ensures.value in
    session_text w (length w.scripts) n c.in_ok-engine.engine.config c.in_ok-whole.whole.seen c.close.result.journal.entries c.as_slice-2.result.now
    c.args.text.now.items c.write_sessions.new.text.items opened c.close.ensures.journal
    (c.as_slice-2.ensures.value ∙ c.in_ok-whole.ensures.outcomes) c.in_ok-write_sessions.ensures.ok
