use Rattle.std.proofs.Common.{◌≤◌, List, length, sym, subst, arith}
use Rattle.std.specs.Prelude.{All}
use Rattle.std.proofs.lemmas.List.{take_all}
use Rattle.dt_model.specs.declared.replies.Verdict.{Verdict}
use Rattle.dyntensor.proofs.RunLemmas.{room-more}
use Rattle.dyntensor.proofs.runs.most_calls.Goals as goal

pub loop-script-preserved : goal.loop-script-preserved
loop-script-preserved c =
    let old = c.loop-script.invariant in
    let both = c.greater-most.ensures.greatest in
    let grown = both.0 in
    let fits : length c.script-item.result ≤ c.greater-most.result = let same = c.len.ensures.value in let most = both.1 in omega arith in
    let low = old.low in
    record {
      room = room-more c.args.scripts.now c.loop-script.script-index c.loop-script.most c.greater-most.result c.script-item.result c.loop-script-test.true
          (sym c.script-item.is) old.room grown fits;
      low = omega arith;
      high = c.greater-most.ensures.few;
    }

pub returns-clause-room : goal.returns-clause-room
returns-clause-room c =
    let past : length c.args.scripts.now ≤ c.loop-script.script-index = omega arith in
    subst (All (λ (script : List Verdict). length script ≤ c.loop-script.most)) (take_all c.loop-script.script-index c.args.scripts.now past)
    c.loop-script.invariant.room
