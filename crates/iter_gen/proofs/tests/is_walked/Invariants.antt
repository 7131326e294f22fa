use Rattle.std.proofs.Common.{◌≡◌}
use Rattle.iter_gen.proofs.tests.is_walked.Given as goal

abbrev pub invariant-elements : goal.invariant-elements
invariant-elements g l = l.walker.code ≡ l.initial.walker.code
