use Rattle.sessions.proofs.RunTestsLemmas.{IsBuilt-empty, IsBuilt-length, IsBuilt-next}
use Rattle.sessions.proofs.run_tests.some_script.Goals as goal

pub loop-done-init : goal.loop-done-init
loop-done-init c = IsBuilt-empty c.new-script.result c.new-script.ensures.value

pub some_line-requires-clause-built : goal.some_line-requires-clause-built
some_line-requires-clause-built c = IsBuilt-length c.loop-done.done c.loop-done.script c.loop-done.invariant

pub loop-done-preserved : goal.loop-done-preserved
loop-done-preserved c =
    IsBuilt-next c.loop-done.done c.loop-done.script c.some_line.new.script c.loop-done.invariant c.in_ok-some_line.ensures.built
