use Rattle.sessions.specs.RunTests.{IsBuilt}
use Rattle.sessions.proofs.run_tests.some_script.Given as goal

abbrev pub invariant-loop-done : goal.invariant-loop-done
invariant-loop-done l = IsBuilt l.done l.script
