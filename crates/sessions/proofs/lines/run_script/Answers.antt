use Rattle.std.proofs.Common.{sym, ◌∙◌, arith}
use Rattle.sessions.proofs.RunningLemmas.{AreRunnable-line, AreRunnable-seat}
use Rattle.sessions.proofs.ScriptLinesLemmas.{IsAtLine-none, IsAtLine-next, IsAtLine-unstopped, IsAtLine-world, one_line_more}
use Rattle.sessions.proofs.lines.run_script.Goals as goal

pub loop-i-init : goal.loop-i-init
loop-i-init g c = record {
  at = IsAtLine-none c.args.script.now c.args.session c.args.seat.now c.requires.fresh;
  outcomes = c.requires.room.empty;
  spare = omega arith;
}

pub run_line-outcome-requires-clause-unstopped : goal.run_line-outcome-requires-clause-unstopped
run_line-outcome-requires-clause-unstopped g c =
    IsAtLine-unstopped c.args.script.now c.args.session c.loop-i.i c.args.seat.now c.loop-i.seat c.requires.session c.loop-i.invariant.at g.T.Taker.waits
    c.requires.unstopped

pub run_line-outcome-requires-clause-next : goal.run_line-outcome-requires-clause-next
run_line-outcome-requires-clause-next g c =
    IsAtLine-next c.args.script.now c.args.session c.loop-i.i c.args.seat.now c.loop-i.seat c.requires.session c.loop-i.invariant.at c.loop-i-test.true
    (AreRunnable-seat c.args.seat.now c.args.engine.now c.args.script.now c.requires.engine c.requires.script)

pub run_line-outcome-requires-clause-valid : goal.run_line-outcome-requires-clause-valid
run_line-outcome-requires-clause-valid g c =
    AreRunnable-line c.args.engine.now.config c.args.script.now c.loop-i.i c.index-script-i.result c.requires.script c.loop-i-test.true
    (sym c.index-script-i.is)

pub loop-i-preserved : goal.loop-i-preserved
loop-i-preserved g c =
    let inv = c.loop-i.invariant in
    let old = c.args.seat.now in
    let more = one_line_more c.args.engine.now.config.world c.args.script.now c.args.session c.loop-i.i old c.loop-i.seat c.run_line-outcome.new.seat
    c.requires.session c.loop-i-test.true c.loop-i.lines.outcomes inv.at inv.outcomes c.index-script-i.result c.run_line-outcome.result
    (sym c.index-script-i.is)
    (IsAtLine-world c.args.script.now c.args.session c.loop-i.i c.args.seat.now c.loop-i.seat c.requires.session inv.at c.args.engine.now c.requires.engine)
    c.run_line-outcome.ensures.line in
    record { at = more.at; outcomes = c.push.ensures.outcomes ∙ more.outcomes; spare = let s = inv.spare in let p = c.push.ensures.spare in omega arith }
