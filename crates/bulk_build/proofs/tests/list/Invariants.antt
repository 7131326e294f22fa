use Rattle.std.proofs.Common.{◌≡◌, length}
use Rattle.bulk_build.specs.Layouts.{numbered_from}
use Rattle.bulk_build.proofs.tests.list.Given as goal

abbrev pub invariant-loop-n : goal.invariant-loop-n
invariant-loop-n l = record {
  items : l.elems.items ≡ numbered_from 0 l.n;
  len : length l.elems.items ≡ l.n;
}
