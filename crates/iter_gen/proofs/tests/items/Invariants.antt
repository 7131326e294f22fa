use Rattle.std.proofs.Common.{◌≡◌, length}
use Rattle.iter_gen.specs.Trials.{odds_from}
use Rattle.iter_gen.proofs.tests.items.Given as goal

abbrev pub invariant-loop-n : goal.invariant-loop-n
invariant-loop-n l = record {
  items : l.elems.items ≡ odds_from 0 l.n;
  len : length l.elems.items ≡ l.n;
}
