use Rattle.std.proofs.Common.{ℕ, ◌≡◌, ◌+◌, ◌<◌, ◌≤◌, slice_index, length}
use Rattle.fiber_latch.proofs.latches.both_numbers.Given as goal

abbrev pub invariant-loop-index : goal.invariant-loop-index
invariant-loop-index l = record {
  wide : length l.numbers ≡ 16;
  theirs : (k : ℕ) → l.first ≤ k + 1 → k < l.index → slice_index l.numbers k ≡ slice_index l.others k;
  mine : (k : ℕ) → k + 1 < l.first → slice_index l.numbers k ≡ slice_index l.initial.numbers k;
}
