use Rattle.sessions.proofs.RunTestsLemmas.{IsBuilt-empty, IsBuilt-next, AreBuilt-empty, AreBuilt-length, AreBuilt-next}
use Rattle.sessions.proofs.run_tests.add_refusal_get.Goals as goal

pub returns : goal.returns
returns c =
    let none = IsBuilt-empty c.new-script.result c.new-script.ensures.value in
    let one = IsBuilt-next 0 c.new-script.result c.call_line.new.script none c.in_ok-call_line.ensures.built in
    let two = IsBuilt-next 1 c.call_line.new.script c.refused_line.new.script one c.in_ok-refused_line.ensures.built in
    let three = IsBuilt-next 2 c.refused_line.new.script c.call_line-2.new.script two c.in_ok-call_line-2.ensures.built in
    let empty = AreBuilt-empty 3 c.new-scripts.result c.new-scripts.ensures.value in
    record {
      built = AreBuilt-next 0 3 c.new-scripts.result c.add_script.new.scripts empty
          (c.in_ok-add_script.ensures.built 3 three (AreBuilt-length 0 3 c.new-scripts.result empty));
    }
