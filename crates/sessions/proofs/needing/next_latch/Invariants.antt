use Rattle.std.proofs.Common.{ℕ, ◌≡◌, ◌≤◌, length, drop}
use Rattle.sessions.specs.Needing.{covers}
use Rattle.sessions.proofs.needing.next_latch.Given as goal

abbrev pub invariant-loop-index : goal.invariant-loop-index
invariant-loop-index l = record {
  within : l.index ≤ length l.ranges;
  left : (k : ℕ) → l.from ≤ k → covers (drop l.index l.ranges) k ≡ covers (drop l.initial.place l.ranges) k;
}
