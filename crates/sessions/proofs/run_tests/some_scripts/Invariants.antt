use Rattle.sessions.specs.RunTests.{AreBuilt}
use Rattle.sessions.proofs.run_tests.some_scripts.Given as goal

abbrev pub invariant-loop-done : goal.invariant-loop-done
invariant-loop-done l = AreBuilt l.done l.count l.scripts
