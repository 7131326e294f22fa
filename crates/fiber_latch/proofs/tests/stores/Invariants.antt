use Rattle.std.proofs.Common.{◌≡◌, vec_len}
use Rattle.fiber_latch.specs.Trial.{AreNew}
use Rattle.fiber_latch.specs.declared.tests.Small.{Small}
use Rattle.fiber_latch.proofs.tests.stores.Given as goal

abbrev pub invariant-loop-latch : goal.invariant-loop-latch
invariant-loop-latch l = record {
  count : vec_len l.stores ≡ l.latch;
  new : AreNew (λ (s : Small). s.latch) (λ (s : Small). s.cells.items) l.stores.items;
}
