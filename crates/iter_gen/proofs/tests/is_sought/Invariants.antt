use Rattle.std.proofs.Common.{◌≡◌}
use Rattle.iter_gen.proofs.tests.is_sought.Given as goal

abbrev pub invariant-seeks : goal.invariant-seeks
invariant-seeks g l = l.walker.code ≡ l.initial.walker.code
