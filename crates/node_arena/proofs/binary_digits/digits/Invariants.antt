use Rattle.std.proofs.Common.{◌≡◌, ◌≤◌, ◌+◌, ◌*◌, ◌^◌}
use Rattle.node_arena.proofs.binary_digits.digits.Given as goal

abbrev pub invariant-loop-count : goal.invariant-loop-count
invariant-loop-count l = record {
  power_is : l.power ≡ 2 ^ l.count;
  least : l.power ≤ 2 * l.n + 1;
}
