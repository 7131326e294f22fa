use Rattle.std.proofs.Common.{◌≡◌, drop}
use Rattle.dt_model.specs.Verdicts.{all_in_range}
use Rattle.fiber_store.proofs.fibers.is_in_range.Given as goal

abbrev pub invariant-loop-mode : goal.invariant-loop-mode
invariant-loop-mode l = all_in_range l.dims l.at ≡ all_in_range (drop l.mode l.dims) (drop l.mode l.at)
