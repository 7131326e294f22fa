use Rattle.std.proofs.Common.{◌≡◌, ◌+◌, ◌%◌, ◌^◌, ◌<◌, length, sum_by}
use Rattle.dyntensor.proofs.samples.sum_of.Given as goal

abbrev pub invariant-loop-pair : goal.invariant-loop-pair
invariant-loop-pair l = record {
  small : l.sum < 2 ^ 64;
  total : (l.sum + sum_by (λ p. p.1) l.rest) % 2 ^ 64 ≡ sum_by (λ p. p.1) l.nonzeros % 2 ^ 64;
}

abbrev pub decreases-loop-pair : goal.decreases-loop-pair
decreases-loop-pair l = length l.rest
