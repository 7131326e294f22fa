use Rattle.std.proofs.Common.{◌≡◌}
use Rattle.iter_gen.proofs.tests.is_right_through.Given as goal

abbrev pub invariant-turns : goal.invariant-turns
invariant-turns g l = l.walker.code ≡ l.fn.code
