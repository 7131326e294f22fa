use Rattle.sessions.proofs.RunTestsLemmas.{AreBuilt-empty, AreBuilt-length, AreBuilt-next}
use Rattle.sessions.proofs.run_tests.some_scripts.Goals as goal

pub loop-done-init : goal.loop-done-init
loop-done-init c = AreBuilt-empty c.args.count c.new-scripts.result c.new-scripts.ensures.value

pub loop-done-preserved : goal.loop-done-preserved
loop-done-preserved c =
    AreBuilt-next c.loop-done.done c.args.count c.loop-done.scripts c.add_script.new.scripts c.loop-done.invariant
    (c.in_ok-add_script.ensures.built c.args.count c.in_ok-script.ensures.built
    (AreBuilt-length c.loop-done.done c.args.count c.loop-done.scripts c.loop-done.invariant))
