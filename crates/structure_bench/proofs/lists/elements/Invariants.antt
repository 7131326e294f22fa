use Rattle.std.proofs.Common.{◌≡◌}
use Rattle.structure_bench.specs.Numbered.{numbered_from}
use Rattle.structure_bench.proofs.lists.elements.Given as goal

abbrev pub invariant-loop-n : goal.invariant-loop-n
invariant-loop-n l = l.elems.items ≡ numbered_from 0 l.n
