use Rattle.std.proofs.Common.{◌<◌, ◌≤◌}
use Rattle.structure_bench.proofs.sequences.span_of.Given as goal

abbrev pub invariant-loop : goal.invariant-loop
invariant-loop l = (0 < l.span) × (l.span ≤ 16777216)
