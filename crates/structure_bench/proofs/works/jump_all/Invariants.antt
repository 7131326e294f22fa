use Rattle.std.proofs.Common.{◌≡◌}
use Rattle.structure_bench.proofs.works.jump_all.Given as goal

abbrev pub invariant-loop : goal.invariant-loop
invariant-loop g l = l.walker.code ≡ l.code
