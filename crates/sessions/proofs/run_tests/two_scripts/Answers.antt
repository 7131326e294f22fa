use Rattle.sessions.proofs.RunTestsLemmas.{AreBuilt-empty, AreBuilt-length, AreBuilt-next}
use Rattle.sessions.proofs.run_tests.two_scripts.Goals as goal

pub returns : goal.returns
returns c =
    let none = AreBuilt-empty 1 c.new-scripts.result c.new-scripts.ensures.value in
    let one = AreBuilt-next 0 1 c.new-scripts.result c.add_script.new.scripts none
    (c.in_ok-add_script.ensures.built 1 c.in_ok-script.ensures.built (AreBuilt-length 0 1 c.new-scripts.result none)) in
    record {
      built = AreBuilt-next 1 1 c.add_script.new.scripts c.add_script-2.new.scripts one
          (c.in_ok-add_script-2.ensures.built 1 c.in_ok-other.ensures.built (AreBuilt-length 1 1 c.add_script.new.scripts one));
    }
