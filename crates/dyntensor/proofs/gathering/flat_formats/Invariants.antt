use Rattle.std.proofs.Common.{◌≡◌, map, take}
use Rattle.dyntensor.proofs.gathering.flat_formats.Given as goal

abbrev pub invariant-loop-dim : goal.invariant-loop-dim
invariant-loop-dim l = l.formats.items ≡ map (λ d. 0) (take l._dim-index l.dims)
